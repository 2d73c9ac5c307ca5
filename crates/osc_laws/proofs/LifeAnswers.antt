-- That a life's rows exclude each other, for a request that names it, and that each reply is one.
use Rattle.std.proofs.Common.{◌≡◌, ℕ, ◌∙◌, sym, ap, subst, refl, false, Some, List}
use Rattle.std.proofs.lemmas.Bool.{both_ways}
use Rattle.osc_coap.specs.Datagram.{Parts, IsDatagram}
use Rattle.osc_coap.specs.Inner.{InnerParts}
use Rattle.osc_protect.specs.Protection.{ProtectsRequest, requests}
use Rattle.osc_protect.specs.Refusals.{RefusesToOpen}
use Rattle.osc_protect.specs.Sealed.{SealsResponse}
use Rattle.osc_protect.specs.declared.unprotect_error.UnprotectError.{UnprotectError}
use Rattle.osc_protect.specs.declared.unprotect_error.UnprotectError.TheVariants.{Tag, Inner}
use Rattle.osc_laws.specs.AnswerLaws.{AnswerLaws}
use Rattle.osc_life.specs.Doubting.{IsNotBelow}
use Rattle.osc_life.specs.Life.{Life, Passes, is_open, next_own}
use Rattle.osc_observe.specs.Observing.{registers}
use Rattle.osc_observe.specs.Received.{Received}
use Rattle.osc_life.specs.Replies.{ErrorText, SaysError, as_reply, challenge_message, error_message}
use Rattle.osc_life.specs.LifeAnswer.{Arrival, MeetsLifeRow, SaysChallenge}
use Rattle.osc_laws.proofs.OneReceived.{one_received}
use Rattle.osc_life.specs.ServerHistory.{Answer, BadInner, BadTag, Challenge, Deliver, Replay, SequenceExhausted, TicketValues}
use Rattle.osc_endpoint.proofs.Deliveries.{no_replay, no_want}

-- ---- replies

-- an error has one text
pub one_error : AnswerLaws → (d : List ℕ) (mid : ℕ) (e : ErrorText) (r s : List ℕ) → SaysError d mid e r → SaysError d mid e s → r ≡ s
one_error laws d mid e r s (p, datagram, written) (q, other, again) =
    let same : q ≡ p = laws.one q p d other datagram in
    laws.text (as_reply p.kind p.message_id p.token mid (error_message e)) r s written
    (subst (λ (x : Parts). IsDatagram (as_reply x.kind x.message_id x.token mid (error_message e)) s) same again)

-- a challenge too
pub one_challenge : AnswerLaws → (of : Life) (n : ℕ) (d : List ℕ) (mid : ℕ) (echo r s : List ℕ) → SaysChallenge of n d mid echo r → SaysChallenge of n d mid echo s → r ≡ s
one_challenge laws of n d mid echo r s (p, datagram, written) (q, other, again) =
    let same : q ≡ p = laws.one q p d other datagram in
    (laws.sealed.response of.context n).bytes (Some (next_own of)) (as_reply p.kind p.message_id p.token mid (challenge_message echo)) r s written
    (subst (λ (x : Parts). SealsResponse of.context n (Some (next_own of)) (as_reply x.kind x.message_id x.token mid (challenge_message echo)) s) same again)

-- what is given is one value, and its moment
same_given : (z : List ℕ × ℕ) (echo other : List ℕ) (issued moment : ℕ) → (echo, issued) ≡ z → (other, moment) ≡ z → (echo ≡ other) × (issued ≡ moment)
same_given z echo other issued moment x y = let same = x ∙ sym y in (ap (λ (k : List ℕ × ℕ). k.0) same, ap (λ (k : List ℕ × ℕ). k.1) same)

-- ---- deliveries

-- the ticket of a delivery
abbrev ticket_by : Life → ℕ → ℕ → Received → TicketValues
ticket_by of i n r = record {
  context = i;
  life = of.count;
  number = n;
  kind = r.kind;
  message_id = r.message_id;
  token = r.token;
  observes = registers of.context.features r.message.code r.message.options;
}

-- ---- rows

-- a closed life lets each number pass that isn't below those in doubt
pub shut_passes : (of : Life) (n : ℕ) → is_open of ≡ false → IsNotBelow of.doubt n → Passes of n
shut_passes of n shut from = ((λ is. absurd (both_ways (is_open of) shut is)), (λ _. from))

-- a datagram that is refused protects nothing
no_refusal : AnswerLaws → (of : Life) (n : ℕ) (d : List ℕ) (e : UnprotectError) (m : InnerParts) → RefusesToOpen (requests of.context) d e → ProtectsRequest of.context n m d → ⊥
no_refusal laws of n d e m refuses protects = (laws.request of.context).never_both d n m e protects refuses

no_two_refusals : AnswerLaws → (of : Life) (d : List ℕ) → RefusesToOpen (requests of.context) d Tag → RefusesToOpen (requests of.context) d Inner → ⊥
no_two_refusals laws of d x y = let e : Tag ≡ Inner = (laws.request of.context).refusal d Tag Inner x y in cc

module _ (laws : AnswerLaws) (of : Life) (i n : ℕ) (a : Arrival) where
  -- the conditions of a life's rows exclude each other, and each fixes its answer
  pub one_life_row : (x y : Answer) → MeetsLifeRow of i n a x → MeetsLifeRow of i n a y → x ≡ y
  one_life_row Replay Replay x y = refl
  one_life_row Replay BadTag x y = absurd (no_replay of of n n refl refl x y.0)
  one_life_row Replay (BadInner j k) x y = absurd (no_replay of of n n refl refl x y.0)
  one_life_row Replay (Challenge j k echo issued) x y = absurd (no_replay of of n n refl refl x (shut_passes of n y.0.0 y.0.1))
  one_life_row Replay SequenceExhausted x y = absurd (no_replay of of n n refl refl x (shut_passes of n y.0.0 y.0.1))
  one_life_row Replay (Deliver received ticket) x y = absurd (no_replay of of n n refl refl x y.1.0)
  one_life_row BadTag Replay x y = absurd (no_replay of of n n refl refl y x.0)
  one_life_row BadTag BadTag x y = refl
  one_life_row BadTag (BadInner j k) x y = absurd (no_two_refusals laws of a.bytes x.1 y.1)
  one_life_row BadTag (Challenge j k echo issued) x y = absurd (no_refusal laws of n a.bytes Tag y.0.2 x.1 y.0.3)
  one_life_row BadTag SequenceExhausted x y = absurd (no_refusal laws of n a.bytes Tag y.0.2 x.1 y.0.3)
  one_life_row BadTag (Deliver received ticket) x y = absurd (no_refusal laws of n a.bytes Tag received.message x.1 y.0.protects)
  one_life_row (BadInner j k) Replay x y = absurd (no_replay of of n n refl refl y x.0)
  one_life_row (BadInner j k) BadTag x y = absurd (no_two_refusals laws of a.bytes y.1 x.1)
  one_life_row (BadInner j k) (BadInner l o) x y =
      let index : j ≡ l = x.2 ∙ sym y.2 in
      let number : k ≡ o = x.3 ∙ sym y.3 in
      cc
  one_life_row (BadInner j k) (Challenge l o echo issued) x y = absurd (no_refusal laws of n a.bytes Inner y.0.2 x.1 y.0.3)
  one_life_row (BadInner j k) SequenceExhausted x y = absurd (no_refusal laws of n a.bytes Inner y.0.2 x.1 y.0.3)
  one_life_row (BadInner j k) (Deliver received ticket) x y = absurd (no_refusal laws of n a.bytes Inner received.message x.1 y.0.protects)
  one_life_row (Challenge j k echo issued) Replay x y = absurd (no_replay of of n n refl refl y (shut_passes of n x.0.0 x.0.1))
  one_life_row (Challenge j k echo issued) BadTag x y = absurd (no_refusal laws of n a.bytes Tag x.0.2 y.1 x.0.3)
  one_life_row (Challenge j k echo issued) (BadInner l o) x y = absurd (no_refusal laws of n a.bytes Inner x.0.2 y.1 x.0.3)
  one_life_row (Challenge j k echo issued) (Challenge l o other moment) x y =
      let given = same_given _ echo other issued moment x.2 y.2 in
      let echo_is : echo ≡ other = given.0 in
      let issued_is : issued ≡ moment = given.1 in
      let index : j ≡ l = x.3 ∙ sym y.3 in
      let number : k ≡ o = x.4 ∙ sym y.4 in
      cc
  one_life_row (Challenge j k echo issued) SequenceExhausted x y = absurd (y.1 x.1)
  one_life_row (Challenge j k echo issued) (Deliver received ticket) x y = absurd (no_want of of n n a.clock a.bytes received.message laws.request refl x.0 y.0.protects y.1)
  one_life_row SequenceExhausted Replay x y = absurd (no_replay of of n n refl refl y (shut_passes of n x.0.0 x.0.1))
  one_life_row SequenceExhausted BadTag x y = absurd (no_refusal laws of n a.bytes Tag x.0.2 y.1 x.0.3)
  one_life_row SequenceExhausted (BadInner l o) x y = absurd (no_refusal laws of n a.bytes Inner x.0.2 y.1 x.0.3)
  one_life_row SequenceExhausted (Challenge j k echo issued) x y = absurd (x.1 y.1)
  one_life_row SequenceExhausted SequenceExhausted x y = refl
  one_life_row SequenceExhausted (Deliver received ticket) x y = absurd (no_want of of n n a.clock a.bytes received.message laws.request refl x.0 y.0.protects y.1)
  one_life_row (Deliver received ticket) Replay x y = absurd (no_replay of of n n refl refl y x.1.0)
  one_life_row (Deliver received ticket) BadTag x y = absurd (no_refusal laws of n a.bytes Tag received.message y.1 x.0.protects)
  one_life_row (Deliver received ticket) (BadInner l o) x y = absurd (no_refusal laws of n a.bytes Inner received.message y.1 x.0.protects)
  one_life_row (Deliver received ticket) (Challenge j k echo issued) x y = absurd (no_want of of n n a.clock a.bytes received.message laws.request refl y.0 x.0.protects x.1)
  one_life_row (Deliver received ticket) SequenceExhausted x y = absurd (no_want of of n n a.clock a.bytes received.message laws.request refl y.0 x.0.protects x.1)
  one_life_row (Deliver received ticket) (Deliver other given) x y =
      let message : received ≡ other = one_received (requests of.context) laws.one (laws.request of.context) a.bytes n n received other x.0 y.0 in
      let tickets : ticket ≡ given = x.2 ∙ ap (ticket_by of i n) message ∙ sym y.2 in
      cc
  one_life_row Replay answer x y = absurd y
  one_life_row BadTag answer x y = absurd y
  one_life_row (BadInner j k) answer x y = absurd y
  one_life_row (Challenge j k echo issued) answer x y = absurd y
  one_life_row SequenceExhausted answer x y = absurd y
  one_life_row (Deliver received ticket) answer x y = absurd y
  one_life_row answer other x y = absurd x
