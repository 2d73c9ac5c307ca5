use Rattle.osc_message.proofs.Answered.{acked_once, answered_once}
use Rattle.osc_message.proofs.Repeats.{gets_what_was_sent}
use Rattle.osc_message.proofs.laws.arrivals_get_what_was_sent.Goals as goal

pub returns-clause-same : goal.returns-clause-same
returns-clause-same c = gets_what_was_sent

pub returns-clause-answered : goal.returns-clause-answered
returns-clause-answered c = answered_once

pub returns-clause-acknowledged : goal.returns-clause-acknowledged
returns-clause-acknowledged c = acked_once
