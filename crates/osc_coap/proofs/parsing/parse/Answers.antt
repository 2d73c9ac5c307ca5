use Rattle.osc_coap.specs.Datagram.{IsDatagram}
use Rattle.osc_coap.specs.Fault.{HasFault}
use Rattle.osc_coap.specs.Views.{parts_of}
use Rattle.osc_coap.proofs.Converses.{answers_parts, answers_fault}
use Rattle.osc_coap.proofs.OneReading.{datagram_one, never_both}
use Rattle.osc_coap.proofs.OneFault.{faults_one}
use Rattle.osc_coap.proofs.parsing.parse.Goals as goal

pub returns-clause-accepts : goal.returns-clause-accepts
returns-clause-accepts c = answers_parts parts_of (λ p. IsDatagram p c.args.bytes.now) (HasFault c.args.bytes.now) (λ p q h k. datagram_one p q c.args.bytes.now h k) (λ p f place h k. never_both p c.args.bytes.now f place h k) c.read_datagram.result c.read_datagram.ensures.accepted c.read_datagram.ensures.refused

pub returns-clause-refuses : goal.returns-clause-refuses
returns-clause-refuses c = answers_fault parts_of (λ p. IsDatagram p c.args.bytes.now) (HasFault c.args.bytes.now) (faults_one c.args.bytes.now) (λ p f place h k. never_both p c.args.bytes.now f place h k) c.read_datagram.result c.read_datagram.ensures.accepted c.read_datagram.ensures.refused
