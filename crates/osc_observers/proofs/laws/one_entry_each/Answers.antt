use Rattle.osc_observers.proofs.OneEntry.{one_entry}
use Rattle.osc_observers.proofs.laws.one_entry_each.Goals as goal

pub returns : goal.returns
returns c = one_entry
