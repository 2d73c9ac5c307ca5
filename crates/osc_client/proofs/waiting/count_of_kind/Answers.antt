use Rattle.std.proofs.Common.{◌+◌, ◌∙◌, ap, arith}
use Rattle.std.specs.Prelude.{cond}
use Rattle.osc_client.proofs.Asking.{counted_more}
use Rattle.osc_client.proofs.waiting.count_of_kind.Goals as goal
use Rattle.osc_client.proofs.waiting.count_of_kind.Goals.{then-is_of_kind, else-is_of_kind}

pub loop-place-preserved : goal.loop-place-preserved
loop-place-preserved g c =
    let (counted, least) = c.loop-place.invariant in
    let test = c.loop-place-test.true in
    let len = c.len-place-end.ensures in
    let more = counted_more c.args.registering (g.W.Waiting.requests c.args.pending.now) c.loop-place.place c.loop-place.count c.awaits_at.result c.is_of_kind.result
    (omega (arith, test, len)) c.awaits_at.ensures c.is_of_kind.ensures counted in
    elim c.if-is_of_kind.branch [
      | then-is_of_kind w ↦
          let is = w.count-is in let now = more ∙ ap (λ b. c.loop-place.count + cond b 1 0) w.if-is_of_kind.true in (omega (arith, is, now), omega (arith, is, least))
      | else-is_of_kind w ↦
          let is = w.count-is in let now = more ∙ ap (λ b. c.loop-place.count + cond b 1 0) w.if-is_of_kind.false in (omega (arith, is, now), omega (arith, is, least))
    ]
