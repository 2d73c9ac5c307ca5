use Rattle.osc_observers.proofs.Once.{is_gone, none_noted, once}
use Rattle.osc_observers.proofs.laws.observers_end_once.Goals as goal

pub returns-clause-each : goal.returns-clause-each
returns-clause-each c = once

pub returns-clause-gone : goal.returns-clause-gone
returns-clause-gone c = is_gone

pub returns-clause-unnoted : goal.returns-clause-unnoted
returns-clause-unnoted c = none_noted
