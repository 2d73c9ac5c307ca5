use Rattle.osc_kept.proofs.Likeness.{stays_like}
use Rattle.osc_kept.proofs.laws.shares_stay_like.Goals as goal

pub returns : goal.returns
returns c = stays_like c.contexts_stand_alone.ensures
