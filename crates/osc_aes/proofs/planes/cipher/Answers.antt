use Rattle.std.proofs.Common.{◌≡◌, ◌+◌, ◌*◌, [], get_or, refl, arith}
use Rattle.osc_aes.specs.Lanes.{block_in}
use Rattle.osc_aes.proofs.PlaneRounds.{first_planes, last_planes}
use Rattle.osc_aes.proofs.planes.cipher.Goals as goal

pub loop-four-init : goal.loop-four-init
loop-four-init c = λ w held b few.
    first_planes w b few (get_or c.args.keys.now 0 []) c.args.planes c.add_planes-state.result (held 0 (omega arith)) c.add_planes-state.ensures

pub loop-four-preserved : goal.loop-four-preserved
loop-four-preserved c = λ w held b few.
    let next : 4 * c.loop-four.four + 4 ≡ 4 * (c.loop-four.four + 1) = omega arith in
    let more = c.four_rounds-next.ensures w (block_in 0 c.args.planes b) held b few (c.loop-four.invariant w held b few) in
    rw next at more

pub returns : goal.returns
returns c = λ w held b few.
    let done : c.loop-four.four ≡ 2 = omega arith in
    let eight = rw done at c.loop-four.invariant w held b few in
    last_planes w b few (block_in 0 c.args.planes b) (get_or c.args.keys.now 10 []) c.round-mixed.result c.sub_bytes.result c.add_planes.result
    (c.round-mixed.ensures w (block_in 0 c.args.planes b) 8 9 b refl refl (held 9 (omega arith)) few eight)
    c.sub_bytes.ensures (held 10 (omega arith)) c.add_planes.ensures
