use Rattle.osc_coap.proofs.OneInner.{inner_one, inner_faults_one, inner_never_both}
use Rattle.osc_coap.proofs.EachReading.{inner_reads}
use Rattle.osc_coap.proofs.laws.one_inner.Goals as goal

pub returns-clause-one : goal.returns-clause-one
returns-clause-one c = inner_one

pub returns-clause-one_fault : goal.returns-clause-one_fault
returns-clause-one_fault c = inner_faults_one

pub returns-clause-never_both : goal.returns-clause-never_both
returns-clause-never_both c = inner_never_both

pub returns-clause-each : goal.returns-clause-each
returns-clause-each c = inner_reads
