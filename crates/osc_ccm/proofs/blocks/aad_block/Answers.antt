use Rattle.std.proofs.Common.{ℕ, List, arith, ap, get_or}
use Rattle.osc_ccm.proofs.Macs.{aad_block_put}
use Rattle.osc_ccm.proofs.blocks.aad_block.Goals as goal

pub returns-clause-block : goal.returns-clause-block
returns-clause-block c =
    let high = ap (λ (l : List ℕ). get_or l 0 0) c.to_be_bytes.ensures in
    let low = ap (λ (l : List ℕ). get_or l 1 0) c.to_be_bytes.ensures in
    aad_block_put _ _ c.min-taken.result _ c.args.aad.now c.copy_from_slice.new.self c.min-taken.ensures (omega arith) c.copy_from_slice.ensures.after
    (omega (arith, high)) (omega (arith, low))
