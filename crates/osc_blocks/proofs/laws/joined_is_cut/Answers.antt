use Rattle.osc_blocks.proofs.OneBody.{one_body_law}
use Rattle.osc_blocks.proofs.laws.joined_is_cut.Goals as goal

pub returns : goal.returns
returns c = one_body_law
