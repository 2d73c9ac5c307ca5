use Rattle.osc_coap.specs.Inner.{IsInner}
use Rattle.osc_coap.specs.Fault.{HasInnerFault}
use Rattle.osc_coap.specs.Views.{inner_parts_of}
use Rattle.osc_coap.proofs.Converses.{answers_parts, answers_fault}
use Rattle.osc_coap.proofs.OneInner.{inner_one, inner_faults_one, inner_never_both}
use Rattle.osc_coap.proofs.parsing.parse_inner.Goals as goal

pub returns-clause-accepts : goal.returns-clause-accepts
returns-clause-accepts c = answers_parts inner_parts_of (λ p. IsInner p c.args.bytes.now) (HasInnerFault c.args.bytes.now) (λ p q h k. inner_one p q c.args.bytes.now h k) (λ p f place h k. inner_never_both p c.args.bytes.now f place h k) c.read_plaintext.result c.read_plaintext.ensures.accepted c.read_plaintext.ensures.refused

pub returns-clause-refuses : goal.returns-clause-refuses
returns-clause-refuses c = answers_fault inner_parts_of (λ p. IsInner p c.args.bytes.now) (HasInnerFault c.args.bytes.now) (inner_faults_one c.args.bytes.now) (λ p f place h k. inner_never_both p c.args.bytes.now f place h k) c.read_plaintext.result c.read_plaintext.ensures.accepted c.read_plaintext.ensures.refused
