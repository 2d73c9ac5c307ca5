use Rattle.std.proofs.Common.{◌<◌, [], inl, inr, length, subst, sym}
use Rattle.osc_replies.specs.Memory.{Asks}
use Rattle.osc_replies.proofs.Asking.{none_by, one_asked}
use Rattle.osc_replies.proofs.remembered.Remembered.request.Goals as goal

pub returns-in_default-clause-refused : goal.returns-in_default-clause-refused
returns-in_default-clause-refused g c = λ p n option text is asks. absurd (c.one_datagram.ensures.never_both p _ _ _ is c.in_default.ensures.refused)

pub returns-in-None-clause-refused : goal.returns-in-None-clause-refused
returns-in-None-clause-refused g c = λ p n option text is asks.
    let same = c.one_datagram.ensures.one _ _ _ is c.in-Ok.ensures.accepted in
    absurd (c.in-None.ensures.none n option text (subst (λ q. Asks q n option text) same asks))

pub returns-in-Some-clause-refused : goal.returns-in-Some-clause-refused
returns-in-Some-clause-refused g c =
    none_by c.of.result (λ long p n option text is asks.
    let same = c.one_datagram.ensures.one _ _ _ is c.in-Ok.ensures.accepted in
    let asked = subst (λ q. Asks q n option text) same asks in
    let one = one_asked c.one_head.ensures.request _ (record { number = n; option = option; text = text; reply = [] }) _ _ _ asked c.in-Some.ensures.asks in
    elim long [
      | inl o ↦ inl (subst (λ z. 46 < length z) (sym one.1) o)
      | inr t ↦ inr (subst (λ z. g.row.LEN < length z) (sym one.2) t)
    ]) c.of.ensures.refused
