use Rattle.std.proofs.Common.{◌+◌, refl, arith, rules}
use Rattle.std.proofs.Math.ListN.{replicate}
use Rattle.osc_aes.specs.Aes128.{expanded_key}
use Rattle.osc_aes.proofs.PlaneKeys.{first_key, one_more_key}
use Rattle.osc_aes.proofs.plane_keys.round_keys.Goals as goal

pub loop-round-init : goal.loop-round-init
loop-round-init c = (
  refl,
  first_key c.args.key.now (omega arith),
  one_more_key 0 (replicate 11 (replicate 8 0)) (expanded_key c.args.key.now) c.args.key.now c.turned_planes.result (omega arith) (first_key c.args.key.now (omega arith)) c.turned_planes.ensures
      (λ r lt. absurd (omega (arith, lt))),
)

pub loop-round-preserved : goal.loop-round-preserved
loop-round-preserved c =
    let next = c.next_round_key-next.ensures c.args.key.now (omega arith) c.loop-round.invariant.1 in (
      search rules,
      next,
      one_more_key (c.loop-round.round + 1) c.loop-round.keys (expanded_key c.args.key.now) c.next_round_key-next.result
          c.turned_planes-in-loop-round.result (omega arith) next c.turned_planes-in-loop-round.ensures c.loop-round.invariant.2,
    )

pub returns : goal.returns
returns c = λ r lt. c.loop-round.invariant.2 r (omega (arith, lt))
