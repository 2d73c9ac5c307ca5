-- Two more premises can't be left out: that on numbers, for the order of the responses, and that on fresh starts, for the nonces.
use Rattle.std.proofs.Common.{◌≡◌, ℕ, ◌≤◌, ◌∙◌, sym, ap, subst, refl, arith, Option, Some, None, List, [], inl, inr}
use Rattle.std.proofs.lemmas.List.Elements.{All-cons, All-nil}
use Rattle.osc_coap.specs.Datagram.{Parts}
use Rattle.osc_context.specs.Reserving.{next_limit}
use Rattle.osc_context.specs.SecurityContext.{SecurityContext}
use Rattle.osc_context.specs.Views.{number_of}
use Rattle.osc_protect.specs.Protection.{Protects, responses_to}
use Rattle.osc_protect.specs.Sealed.{SealsNotification, SealsRequest, inside}
use Rattle.osc_life.specs.declared.start.Start.TheVariants as starts
use Rattle.osc_client.specs.ClientHistory as client
use Rattle.osc_life.specs.Life.{Answered as AnsweredMark, Challenged, Delivered, Life, born, marked, next_own, renewed}
use Rattle.osc_observe.specs.Received.{Received}
use Rattle.osc_life.specs.ServerHistory as server
use Rattle.osc_kept.specs.Examples.{FreshAgainBreaks, OwnOutOfOrderBreaks, asks, delivers_registration, hears, notifies, observing, restarts_below, start_client}
use Rattle.osc_kept.specs.Premises.{Answers, NobodyForgesRequests}
use Rattle.osc_kept.specs.World.{World, Begin, Then, Server, ServerStarts, Draws, Reserves, AtClient, Has, Response, client_history, sent}
use Rattle.osc_kept.proofs.Examples.{OpeningLaws, asked_seals, floor_of, none_carries, sent_opens, zero_small}
use Rattle.osc_kept.proofs.Lives.{some_is}
use Rattle.osc_kept.proofs.Observation.{AllAsk, heard_asks, notified_all, notified_own, notified_seals}

-- what is delivered or notified of a response for request k has the Partial IV with which the server sealed it, or none
own_heard : OpeningLaws → (n : ℕ) (s : SecurityContext) (w : World) (h : client.History) (k : ℕ) (a : List ℕ) (own : Option ℕ) (q : Parts) (v : Received) → client_history s w ≡ Some h → client.context h ≡ s
    → SealsNotification s k own q a → Answers n s w (AtClient (client.Datagram 0 a) (client.Took (client.Notified v k))) → v.number ≡ own
own_heard laws n s w h k a own q v e c seals x =
    let (r, to, (is, other, waits, receives, goes)) = x.2 in
    let same : x.0 ≡ h = some_is (sym x.1 ∙ e) in
    let context_is : client.context x.0 ≡ s = ap client.context same ∙ c in
    let P : SecurityContext → ℕ → Type 0 = λ z i. Protects (responses_to z (client.observes r.wait) i) other v.message a in
    let protects : P s k = subst (λ i. P s i) (sym is) (subst (λ z. P z r.number) context_is receives.protects) in
    receives.number ∙ notified_own laws s a k own q (client.observes r.wait) other v.message seals protects

-- equal responses have one Partial IV
other_own : (z y : Response) (i j : ℕ) → z.own ≡ Some i → z ≡ y → y.own ≡ Some j → i ≡ j
other_own z y i j e f g = some_is (sym e ∙ ap (λ (u : Response). u.own) f ∙ g)

pub own_out_of_order_breaks : OpeningLaws → OwnOutOfOrderBreaks
own_out_of_order_breaks laws n s x high q again r k u v echo c early late above free a =
    let first : server.TicketValues = observing 0 0 r in
    let second : server.TicketValues = observing 1 0 k in
    let begin : World = start_client x 0 Begin in
    let w6 : World = delivers_registration 0 0 r echo q.bytes (Then (Then (asks q begin) (ServerStarts (starts.Fresh high) x.size)) (Reserves Server)) in
    let w10 : World = restarts_below x high q r echo early c in
    let w12 : World = start_client x 0 w10 in
    let w15 : World = Then (delivers_registration 1 0 k echo again.bytes (asks again w12)) (Draws Server) in
    let w17 : World = hears 0 u late.bytes (notifies second late w15) in
    let asked1 : client.History = client.Then (client.New s 0 x.life_ms) (client.Request 0 again.plain again.room) (client.Sent again.bytes) in
    let asked2 : client.History = client.Then asked1 (client.Datagram 0 late.bytes) (client.Took (client.Notified u 0)) in
    let served1 : server.History = server.Then (server.Then server.Begin (server.Add s (starts.Fresh high) x.size 1) (server.Added 0)) (server.Datagram 0 echo 0 q.bytes)
    (server.Took (server.Deliver r first) []) in
    let served2 : server.History = server.Then (server.Then served1 (server.Notify first early.plain early.room) (server.Replied early.bytes)) (server.Restart 0 0) server.Restarted in
    let served3 : server.History = server.Then (server.Then served2 (server.Datagram 0 echo 0 q.bytes) (server.Took (server.Challenge 0 0 echo 0) c)) (server.Datagram 0 echo 0 again.bytes)
    (server.Took (server.Deliver k second) []) in
    let life1 : Life = marked (Some (Delivered 0)) (born s (starts.Fresh high) x.size) in
    let life2 : Life = marked (Some (Delivered 0)) (marked (Some (Challenged echo 0)) (renewed 0 (marked (Some AnsweredMark) life1))) in
    let asks1 : AllAsk 0 asked1 = All-cons (λ (y : client.Asked). y.number ≡ 0) _ [] refl (All-nil (λ (y : client.Asked). y.number ≡ 0)) in
    let asks2 : AllAsk 0 asked2 = heard_asks asked1 0 0 0 late.bytes u asks1 in
    let seals_q : SealsRequest s 0 q.plain q.bytes = asked_seals n s begin q (client.New s 0 x.life_ms) 0 refl refl refl a.0.0.0.0.0.0.0.0.0.0.0.0.0.0.0.1 in
    let seals_again : SealsRequest s 0 again.plain again.bytes = asked_seals n s w12 again (client.New s 0 x.life_ms) 0 refl refl refl a.0.0.0.0.0.1 in
    let early_seals = notified_seals n s w6 first early served1 life1 refl refl refl a.0.0.0.0.0.0.0.0.0.0.0.1 in
    let late_seals = notified_seals n s w15 second late served3 life2 refl refl refl a.0.0.1 in
    let heard_last : Response = record { number = 0; own = v.number; message = v.message } in
    let own_is : v.number ≡ Some (next_own life1) = own_heard laws n s w17 asked2 0 early.bytes (Some (next_own life1)) _ v refl refl early_seals a.1 in
    let opens : (w : World) → Has (record { number = 0; message = inside q.plain }) (sent s w) → NobodyForgesRequests s w q.bytes = λ w has. sent_opens laws s w q.bytes 0 q.plain seals_q has in (
      ((((((((((((((((((tt, tt), tt), tt), tt), tt), opens _ (inl refl)), tt), tt), tt), opens _ (inl refl)), tt), tt), tt), sent_opens laws s _ again.bytes 0 again.plain seals_again (inl refl)), tt), tt), notified_all laws s _ asked1 0 late.bytes (Some (next_own life2)) _ refl asks1 late_seals (inl refl)), notified_all laws s _ asked2 0 early.bytes (Some (next_own life1)) _ refl asks2 early_seals (inr (inr (inl refl)))),
      ((((((((((((((((((tt, tt), tt), tt), tt), tt), tt), tt), tt), tt), λ h of f l none p has carries. elim has [ inl e ↦ none_carries q 0 echo p free e carries | inr rest ↦ rest ]), tt), tt), tt), tt), tt), tt), tt), tt),
      ((((((((((((((((((tt, tt), tt), tt), refl), tt), tt), tt), tt), tt), tt), tt), tt), tt), tt), tt), tt), tt), tt),
      λ claims. elim (claims.1.in_order (record { number = 0; own = u.number; message = u.message }) (inl refl) refl) [
        | inl e ↦
            let same : next_own life1 ≡ 1 = other_own heard_last _ (next_own life1) 1 own_is e.0 refl in
            omega (arith, above, same)
        | inr more ↦ elim more [
          | inl e ↦
              let same : next_own life1 ≡ 0 = other_own heard_last _ (next_own life1) 0 own_is e.0 refl in
              omega (arith, above, same)
          | inr rest ↦ elim rest [ inl e ↦ absurd e.1 | inr none ↦ absurd none ]
        ]
      ],
    )

pub fresh_again_breaks : OpeningLaws → FreshAgainBreaks
fresh_again_breaks laws n s x later q r k echo y z is a =
    let seals : SealsRequest s 0 q.plain q.bytes = asked_seals n s (start_client x 0 Begin) q (client.New s 0 x.life_ms) 0 refl refl refl a.0.0.0.0.0.0.0.1 in
    let opens : (w : World) → Has (record { number = 0; message = inside q.plain }) (sent s w) → NobodyForgesRequests s w q.bytes = λ w has. sent_opens laws s w q.bytes 0 q.plain seals has in
    let floor : next_limit (number_of x.zero_number) ≤ 64 = floor_of x in (
      ((((((((((tt, tt), tt), tt), tt), tt), opens _ (inl refl)), tt), tt), opens _ (inl refl)), tt),
      ((((((((((tt, tt), tt), tt), tt), tt), tt), tt), tt), tt), tt),
      ((((((((((tt, record { client = (omega arith, omega arith); server = tt }), record { client = (refl, refl, omega arith); server = tt }), record { client = refl; server = tt }), record { client = tt; server = (omega arith, zero_small x) }), record { client = tt; server = (refl, refl, zero_small x) }), record { client = tt; server = tt }), record { client = tt; server = tt }), record { client = tt; server = (omega (arith, floor, is), omega (arith, is)) }), record { client = tt; server = tt }), record { client = tt; server = tt }),
      λ claims. claims.1.0 (record { number = 0; own = None; message = inside y.plain }) (inl refl) refl,
    )
