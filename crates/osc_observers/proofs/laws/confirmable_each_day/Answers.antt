use Rattle.osc_observers.proofs.Daily.{within_a_day}
use Rattle.osc_observers.proofs.laws.confirmable_each_day.Goals as goal

pub returns : goal.returns
returns c = within_a_day
