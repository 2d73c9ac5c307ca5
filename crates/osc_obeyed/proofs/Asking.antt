-- What carries the value of a reply was sealed after it. w is a world in which Echo values are made of numbers, v an earlier one.
use Rattle.std.proofs.Common.{◌≡◌, ℕ, ◌<◌, ◌^◌, ◌∙◌, sym, ap, subst, refl, arith, Bool, true, false, Some, None, List, inl, inr}
use Rattle.std.specs.Option.{option_map}
use Rattle.osc_coap.specs.Datagram.{Parts}
use Rattle.osc_context.specs.SecurityContext.{SecurityContext}
use Rattle.osc_life.specs.Life.{Life, next_own}
use Rattle.osc_life.specs.ServerHistory as server
use Rattle.osc_kept_ends.specs.EchoNumber.{echo_of}
use Rattle.osc_kept.specs.EchoNumbers.{EchoByNumbers, IsLawfulByNumbers, NumberIsUnseen}
use Rattle.osc_kept.specs.InWorld.{IsUnseen}
use Rattle.osc_kept.specs.Premises.{Answers}
use Rattle.osc_kept.specs.World.{World, Event, Begin, Then, AtServer, server_life}
use Rattle.osc_kept.proofs.Above.{own_low}
use Rattle.osc_kept.proofs.Deeds.{life_in}
use Rattle.osc_kept.proofs.Digest.{digest}
use Rattle.osc_kept.proofs.EchoNumbers.{earlier}
use Rattle.osc_kept.proofs.Lives.{Stands, life_known, some_is, stands}
use Rattle.osc_obeyed.specs.Freshness.{AskedAfter, AsksWith, DeliversSealedSince, FreshOnDemand}

none_some : {A : Type 0} (x : A) → None ≡ Some x → ⊥
none_some x e = cc

-- the next number of a server that sealed with its own is below 2 ^ 40
low : (n : ℕ) (s : SecurityContext) (w : World) (t : server.TicketValues) (own : Bool) (mid room : ℕ) (p : Parts) (bytes : List ℕ) (x : Answers n s w (AtServer (server.Reply t own mid p room) (server.Replied bytes)))
    → Stands s (digest s w) x.0 → own ≡ true → next_own (life_in s (digest s w)) < 2 ^ 40
low n s w t true mid room p bytes x stood e =
    own_low s (digest s w) x.0 (server.Reply t true mid p room) (server.Replied bytes) (next_own (life_in s (digest s w))) stood.present stood.only x.2 refl
low n s w t false mid room p bytes x stood e = cc

unseen_at : NumberIsUnseen → (n : ℕ) (s : SecurityContext) (w : World) (event : Event) (value : List ℕ) → IsLawfulByNumbers n s (Then w event) → AsksWith event value → IsUnseen s w value
unseen_at unseen n s w (AtServer (server.Reply t own mid p room) (server.Replied bytes)) value i asks = elim i.numbered.replies.1 [
  | inl none ↦ absurd (none_some value (sym none ∙ asks))
  | inr (asked, made) ↦
      let x = i.answers.1 in
      let l : Life = life_in s (digest s w) in
      let stood : Stands s (digest s w) x.0 = stands n s w x.0 i.answers.0 x.1 in
      let known : server_life s w ≡ Some l = life_known s w x.0 l x.1 stood.present in
      let less : next_own l < 2 ^ 40 = low n s w t own mid room p bytes x stood asked in
      let is : echo_of (next_own l) ≡ value = some_is (sym (made l known) ∙ asks) in
      subst (λ z. IsUnseen s w z) is
      (unseen n s w x.0 (next_own l) (earlier n s w (AtServer (server.Reply t own mid p room) (server.Replied bytes)) i) x.1 (ap (λ o. option_map next_own o) stood.present) (omega (arith, less)))
]
unseen_at unseen n s w event value i asks = absurd asks

since : NumberIsUnseen → (n : ℕ) (s : SecurityContext) (w v : World) (value : List ℕ) → IsLawfulByNumbers n s w → AskedAfter v value w → IsUnseen s v value
since unseen n s Begin v value i x = absurd x
since unseen n s (Then w event) v value i (inl (same, asks)) = subst (λ u. IsUnseen s u value) (sym same) (unseen_at unseen n s w event value i asks)
since unseen n s (Then w event) v value i (inr x) = since unseen n s w v value (earlier n s w event i) x

delivers : EchoByNumbers → NumberIsUnseen → (n : ℕ) (s : SecurityContext) (w : World) (event : Event) → IsLawfulByNumbers n s (Then w event) → DeliversSealedSince s w event
delivers ends unseen n s w (AtServer (server.Datagram now echo mid d) (server.Took (server.Deliver received ticket) reply)) i =
    let claims = (ends n s (Then w (AtServer (server.Datagram now echo mid d) (server.Took (server.Deliver received ticket) reply))) i).1 in (
      claims.once.1.0,
      λ v value carries asked was_sent. since unseen n s w v value (earlier n s w _ i) asked (record { number = ticket.number; message = received.message }) was_sent carries,
    )
delivers ends unseen n s w event i = tt

pub fresh_on_demand : EchoByNumbers → NumberIsUnseen → FreshOnDemand
fresh_on_demand ends unseen n s Begin i = tt
fresh_on_demand ends unseen n s (Then w event) i = (fresh_on_demand ends unseen n s w (earlier n s w event i), delivers ends unseen n s w event i)
