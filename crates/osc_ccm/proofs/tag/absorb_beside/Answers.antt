use Rattle.std.proofs.Common.{ap, ◌∙◌, arith}
use Rattle.osc_aes.specs.Aes128.{aes128}
use Rattle.osc_ccm.proofs.PaddedBlocks.{absorbed}
use Rattle.osc_ccm.proofs.tag.absorb_beside.Goals as goal

pub returns-clause-state : goal.returns-clause-state
returns-clause-state g c =
    c.encrypt_two.ensures.first ∙ ap (aes128 _) (absorbed c.args.state.now c.args.part.now _ (omega arith) (omega arith) (omega arith) c.xor_front.ensures)
