use Rattle.osc_coap.proofs.Payloads.{stands_last, with_other, with_added}
use Rattle.osc_coap.proofs.laws.payload_stands_last.Goals as goal

pub returns-clause-last : goal.returns-clause-last
returns-clause-last c = stands_last

pub returns-clause-other : goal.returns-clause-other
returns-clause-other c = with_other

pub returns-clause-added : goal.returns-clause-added
returns-clause-added c = with_added
