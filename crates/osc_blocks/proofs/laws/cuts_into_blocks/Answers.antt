use Rattle.osc_blocks.proofs.Cuts.{cuts_law}
use Rattle.osc_blocks.proofs.laws.cuts_into_blocks.Goals as goal

pub returns : goal.returns
returns c = cuts_law
