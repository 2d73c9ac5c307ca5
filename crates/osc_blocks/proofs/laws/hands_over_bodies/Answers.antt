use Rattle.osc_blocks.proofs.Histories.{bodies_law}
use Rattle.osc_blocks.proofs.laws.hands_over_bodies.Goals as goal

pub returns : goal.returns
returns c = bodies_law
