use Rattle.std.proofs.Common.{ap, ◌∙◌, arith}
use Rattle.osc_aes.specs.Aes128.{aes128}
use Rattle.osc_ccm.proofs.PaddedBlocks.{absorbed}
use Rattle.osc_ccm.proofs.tag.absorb_block.Goals as goal

pub returns : goal.returns
returns g c =
    c.encrypt.ensures ∙ ap (aes128 _) (absorbed c.args.state.now c.args.part.now _ (omega arith) (omega arith) (omega arith) c.xor_front.ensures)
