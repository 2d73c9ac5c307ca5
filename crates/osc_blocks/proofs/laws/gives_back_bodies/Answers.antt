use Rattle.osc_blocks.proofs.CutsTaken.{given_law, taken_law}
use Rattle.osc_blocks.proofs.laws.gives_back_bodies.Goals as goal

pub returns : goal.returns
returns c = (taken_law, given_law)
