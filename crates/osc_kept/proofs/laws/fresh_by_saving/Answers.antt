use Rattle.osc_kept.proofs.Saving.{fresh_by_saving}
use Rattle.osc_kept.proofs.laws.fresh_by_saving.Goals as goal

pub returns : goal.returns
returns c = fresh_by_saving
