use Rattle.std.proofs.Common.{arith}
use Rattle.osc_ccm.proofs.Macs.{fronts_added}
use Rattle.osc_ccm.proofs.tag.hidden_tag.Goals as goal

pub returns : goal.returns
returns c =
    fronts_added c.args.state.now c.args.stream.now c.loop-k.tag (omega arith) (omega arith) c.loop-k.invariant.long
    (λ k lt. c.loop-k.invariant.filled k (omega arith))
