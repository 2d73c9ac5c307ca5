use Rattle.osc_laws.proofs.Plainness.{ends_plain}
use Rattle.osc_laws.proofs.laws.ends_are_plain.Goals as goal

pub returns : goal.returns
returns c = ends_plain
