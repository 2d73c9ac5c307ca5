use Rattle.osc_kept.proofs.KeptPlainness.{kept_plain}
use Rattle.osc_kept.proofs.laws.kept_ends_are_plain.Goals as goal

pub returns : goal.returns
returns c = kept_plain c.ends_are_plain.ensures
