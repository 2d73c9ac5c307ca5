use Rattle.osc_coap.proofs.OneReading.{datagram_one, never_both as laws_apart}
use Rattle.osc_coap.proofs.OneFault.{faults_one}
use Rattle.osc_coap.proofs.EachReading.{reads}
use Rattle.osc_coap.proofs.laws.one_datagram.Goals as goal

pub returns-clause-one : goal.returns-clause-one
returns-clause-one c = datagram_one

pub returns-clause-one_fault : goal.returns-clause-one_fault
returns-clause-one_fault c = faults_one

pub returns-clause-never_both : goal.returns-clause-never_both
returns-clause-never_both c = laws_apart

pub returns-clause-each : goal.returns-clause-each
returns-clause-each c = reads
