use Rattle.osc_proxy.proofs.Decompositions.{parts_are_joined}
use Rattle.osc_proxy.proofs.laws.parts_are_joined.Goals as goal

pub returns : goal.returns
returns c = parts_are_joined
