use Rattle.std.proofs.Common.{◌+◌, ◌*◌, ◌/◌, ◌%◌, get_or, refl, arith, rules}
use Rattle.osc_aes.proofs.Fills.{fill_by_next}
use Rattle.osc_aes.proofs.PlaneKeys.{turned_key}
use Rattle.osc_aes.proofs.plane_keys.turned_planes.Goals as goal

pub loop-n-preserved : goal.loop-n-preserved
loop-n-preserved c = (
  search rules,
  fill_by_next (λ m. get_or c.args.round_key.now (m % 4 + 4 * ((m / 4 + 3 * (c.args.round * (m % 4))) % 4)) 0) c.loop-n.turned c.loop-n.n _ refl (omega arith) c.loop-n.invariant.1,
)

pub returns : goal.returns
returns c =
    turned_key c.args.round c.args.round_key.now c.loop-n.turned c.pack.result c.pack.ensures.first c.pack.ensures.second
    (λ m lt. c.loop-n.invariant.1 m (omega (arith, lt)))
