use Rattle.osc_fresh.proofs.Budgets.{budget_holds}
use Rattle.osc_fresh.proofs.laws.budget_holds.Goals as goal

pub returns : goal.returns
returns c = budget_holds
