use Rattle.std.proofs.Common.{◌≡◌, ◌∙◌, sym, subst, refl, arith, length, Option, Some}
use Rattle.std.proofs.lemmas.Option.{slice_get_read}
use Rattle.osc_life.specs.Life.{Life}
use Rattle.osc_life.specs.LifeAnswer.{LifeReplace}
use Rattle.osc_life.specs.Restarting.{HasLifeLeft}
use Rattle.osc_life.specs.ServerHistory.{Replaced}
use Rattle.osc_endpoint.proofs.Places.{life_at}
use Rattle.osc_endpoint.proofs.server_replace.check_at.Goals as goal

pub returns-clause-answer : goal.returns-clause-answer
returns-clause-answer c = λ lives table each.
    let read = slice_get_read c.args.slots.now (length c.args.slots.now) c.args.index c.index-slots-index.result refl (omega arith) c.index-slots-index.is in
    let (l, is, holds) = life_at c.args.slots.now lives c.args.index c.index-slots-index.result table read in
    let left = subst (λ (o : Option Life). LifeReplace o Replaced) (sym is) (c.in_default.ensures.answered l holds) in
    (left, c.is_taken_beside.ensures.no c.if-is_taken_beside.false lives table each, λ (i, of, there, shares). c.has_sender_at.ensures.has_not c.if-has_sender_at.false lives table i of there shares)

pub returns-clause-left : goal.returns-clause-left
returns-clause-left c = λ yes.
    let read = slice_get_read c.args.slots.now (length c.args.slots.now) c.args.index c.index-slots-index.result refl (omega arith) c.index-slots-index.is in (
      omega arith,
      λ p is.
          let same : Some c.index-slots-index.result ≡ Some p = sym read ∙ is in
          let one : c.index-slots-index.result ≡ p = cc in
          subst HasLifeLeft one (c.in_default.ensures.left refl),
    )
