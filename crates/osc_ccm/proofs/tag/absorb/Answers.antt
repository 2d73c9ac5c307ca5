use Rattle.std.proofs.Common.{arith}
use Rattle.osc_ccm.proofs.PaddedBlocks.{absorb_end, absorb_more}
use Rattle.osc_ccm.proofs.tag.absorb.Goals as goal

pub loop-i-preserved : goal.loop-i-preserved
loop-i-preserved g c =
    absorb_more (g.C.BlockCipher.cipher_key c.args.cipher.now) c.args.state.now c.loop-i.state _ c.args.bytes.now c.loop-i.i _ (omega arith)
    c.loop-i.invariant c.absorb_block.ensures

pub returns : goal.returns
returns g c =
    absorb_end (g.C.BlockCipher.cipher_key c.args.cipher.now) c.args.state.now c.loop-i.state c.args.bytes.now c.loop-i.i (omega arith) c.loop-i.invariant
