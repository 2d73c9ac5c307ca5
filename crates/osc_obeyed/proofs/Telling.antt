-- One request for a command at most may have been obeyed. w is a world that meets the premises, i and j are numbers of requests, c is a command.
use Rattle.std.proofs.Common.{◌≡◌, ℕ, ◌∙◌, sym, ap, subst, refl, true, Option, Some, None, List, [], ◌∷◌, ◌++◌, ◌⊎◌, inl, inr}
use Rattle.std.specs.Prelude.{length}
use Rattle.std.specs.List.{cons_option}
use Rattle.std.specs.Option.{option_map}
use Rattle.osc_coap.specs.Datagram.{Parts}
use Rattle.osc_coap.specs.Inner.{InnerParts}
use Rattle.osc_context.specs.SecurityContext.{SecurityContext}
use Rattle.osc_protect.specs.Protection.{as_notified}
use Rattle.osc_protect.specs.Sealed.{inside}
use Rattle.osc_client.specs.ClientHistory as client
use Rattle.osc_life.specs.Life.{Life}
use Rattle.osc_life.specs.Replies.{challenge_message}
use Rattle.osc_life.specs.ServerHistory as server
use Rattle.osc_kept.specs.Claims.{AtEachHeard, DeliversOnce, IsForThatRequest, TwoEnds}
use Rattle.osc_kept.specs.Premises.{AtEach}
use Rattle.osc_kept.specs.World.{World, Event, Begin, Then, AtClient, AtServer, Has, Request, Response, answered, client_history, delivered, heard, heard_in, response_in, sent, server_life}
use Rattle.osc_kept.proofs.Lives.{some_is}
use Rattle.osc_kept.proofs.WorldSteps.{heard_now, more_heard, still_sent}
use Rattle.osc_obeyed.specs.Commands.{HeardUnobeyed, MayBeObeyed, OneCommand, SealsAnewUnobeyed, ToldUnobeyed}
use Rattle.osc_fresh.specs.Wishing.{SaysUnobeyed, not_obeyed}

-- ---- what the server sealed

in_both : {A : Type 0} (xs ys : List A) (x : A) → Has x (xs ++ ys) → Has x xs ⊎ Has x ys
in_both [] ys x h = inr h
in_both (y ∷ xs) ys x (inl e) = inl (inl e)
in_both (y ∷ xs) ys x (inr h) = elim (in_both xs ys x h) [ inl k ↦ inl (inr k) | inr k ↦ inr k ]

-- the one response that an event seals is to that request, and says that
record IsOf (x : Response) (n : ℕ) (m : InnerParts) : Type 0 where
  number : x.number ≡ n
  message : x.message ≡ m

sealed_one : (l : Option Life) (n : ℕ) (own : _) (p : Parts) (x : Response) → Has x (response_in l n own p) → IsOf x n (inside p)
sealed_one None n own p x h = absurd h
sealed_one (Some of) n own p x (inl e) = record { number = ap (λ (r : Response). r.number) e; message = ap (λ (r : Response). r.message) e }
sealed_one (Some of) n own p x (inr h) = absurd h

no_text : (echo : List ℕ) → SaysUnobeyed (inside (challenge_message echo)) → ⊥
no_text echo says = let e : 0 ≡ length not_obeyed = ap length says.text in cc

says_of : (x : Response) (m : InnerParts) → x.message ≡ m → SaysUnobeyed x.message → SaysUnobeyed m
says_of x m e says = subst SaysUnobeyed e says

told : (s : SecurityContext) (w : World) (x : Response) → Has x (answered s w) → SaysUnobeyed x.message → ToldUnobeyed w x.number
told s Begin x h says = absurd h
told s (Then w (AtServer (server.Datagram now echo mid d) (server.Took (server.Challenge i n given issued) reply))) x h says =
    elim (in_both (response_in (server_life s w) n true (challenge_message given)) (answered s w) x h) [
      | inl k ↦ absurd (no_text given (says_of x _ (sealed_one (server_life s w) n true (challenge_message given) x k).message says))
      | inr k ↦ inr (told s w x k says)
    ]
told s (Then w (AtServer (server.Reply t own mid p room) (server.Replied bytes))) x h says = elim (in_both (response_in (server_life s w) t.number own p) (answered s w) x h) [
  | inl k ↦ let is = sealed_one (server_life s w) t.number own p x k in inl (sym is.number, says_of x _ is.message says)
  | inr k ↦ inr (told s w x k says)
]
told s (Then w (AtServer (server.Notify t p room) (server.Replied bytes))) x h says = elim (in_both (response_in (server_life s w) t.number true (as_notified p)) (answered s w) x h) [
  | inl k ↦ let is = sealed_one (server_life s w) t.number true (as_notified p) x k in inl (sym is.number, says_of x _ is.message says)
  | inr k ↦ inr (told s w x k says)
]
told s (Then w event) x h says = inr (told s w x h says)

-- ---- what the client heard was said

heard_told : (s : SecurityContext) (w : World) (x : Response) → AtEachHeard (IsForThatRequest s) w → Has x (heard w) → SaysUnobeyed x.message → ToldUnobeyed w x.number
heard_told s Begin x a h says = absurd h
heard_told s (Then w event) x a h says = elim (heard_now s w (heard_in event) x a.1 h) [ inl k ↦ inr (told s w x k says) | inr k ↦ inr (heard_told s w x a.0 k says) ]

was_told : (s : SecurityContext) (w : World) (i : ℕ) → AtEachHeard (IsForThatRequest s) w → HeardUnobeyed w i → ToldUnobeyed w i
was_told s w i a (x, h, e, says) = subst (λ k. ToldUnobeyed w k) e (heard_told s w x a h says)

-- ---- what was delivered was sent

abbrev WasSent : SecurityContext → World → ℕ → Type 0
WasSent s w i = (r : Request) × Has r (sent s w) × (r.number ≡ i)

delivered_sent : (s : SecurityContext) (w : World) (i : ℕ) → AtEach (DeliversOnce s) w → Has i (delivered w) → WasSent s w i
delivered_sent s Begin i a h = absurd h
delivered_sent s (Then w (AtServer (server.Datagram now echo mid d) (server.Took (server.Deliver received ticket) reply))) i a (inl e) = (_, a.1.0, sym e)
delivered_sent s (Then w (AtServer (server.Datagram now echo mid d) (server.Took (server.Deliver received ticket) reply))) i a (inr h) = delivered_sent s w i a.0 h
delivered_sent s (Then w event) i a h = let x = delivered_sent s w i a.0 h in (x.0, still_sent s w event x.0 x.1, x.2)

-- ---- of two requests for a command, the client heard of the earlier one

heard_still : (w : World) (event : Event) (i : ℕ) → HeardUnobeyed w i → HeardUnobeyed (Then w event) i
heard_still w event i (x, h, e, says) = (x, more_heard (heard_in event) (heard w) x h, e, says)

abbrev OneHeard : World → ℕ → ℕ → Type 0
OneHeard w i j = (i ≡ j) ⊎ (HeardUnobeyed w i ⊎ HeardUnobeyed w j)

one_still : (w : World) (event : Event) (i j : ℕ) → OneHeard w i j → OneHeard (Then w event) i j
one_still w event i j (inl e) = inl e
one_still w event i j (inr (inl h)) = inr (inl (heard_still w event i h))
one_still w event i j (inr (inr h)) = inr (inr (heard_still w event j h))

-- the request is the one that is sealed now, or an earlier one
sent_now : (o : Option client.History) (p : Parts) (rs : List Request) (r : Request)
    → Has r (cons_option (option_map (λ (k : client.History). record { number = client.next k; message = inside p }) o) rs)
    → ((k : client.History) × (o ≡ Some k) × (r.number ≡ client.next k)) ⊎ Has r rs
sent_now None p rs r h = inr h
sent_now (Some k) p rs r (inl e) = inl (k, refl, ap (λ (x : Request). x.number) e)
sent_now (Some k) p rs r (inr h) = inr h

two_now : (o : Option client.History) (i j : ℕ) (k m : client.History) → o ≡ Some k → i ≡ client.next k → o ≡ Some m → j ≡ client.next m → i ≡ j
two_now o i j k m e x f y = x ∙ ap client.next (some_is (sym e ∙ f)) ∙ sym y

one_heard : (command : ℕ → Option ℕ) (s : SecurityContext) (w : World) (c : ℕ) (r q : Request) → AtEach (SealsAnewUnobeyed command s) w → Has r (sent s w) → Has q (sent s w)
    → command r.number ≡ Some c → command q.number ≡ Some c → OneHeard w r.number q.number
one_heard command s Begin c r q a h k e f = absurd h
one_heard command s (Then w (AtClient (client.Request now p room) (client.Sent bytes))) c r q a h k e f =
    let event : Event = AtClient (client.Request now p room) (client.Sent bytes) in
    elim (sent_now (client_history s w) p (sent s w) r h) [
      | inl (x, is, number) ↦ elim (sent_now (client_history s w) p (sent s w) q k) [
        | inl (y, also, other) ↦ inl (two_now (client_history s w) r.number q.number x y is number also other)
        | inr before ↦ inr (inr (heard_still w event q.number (a.1 x q c is before f (ap command (sym number) ∙ e))))
      ]
      | inr before ↦ elim (sent_now (client_history s w) p (sent s w) q k) [
        | inl (y, also, other) ↦ inr (inl (heard_still w event r.number (a.1 y r c also before e (ap command (sym other) ∙ f))))
        | inr first ↦ one_still w event r.number q.number (one_heard command s w c r q a.0 before first e f)
      ]
    ]
one_heard command s (Then w event) c r q a h k e f = one_still w event r.number q.number (one_heard command s w c r q a.0 h k e f)

same_request : (s : SecurityContext) (w : World) (i j : ℕ) → AtEachHeard (IsForThatRequest s) w → MayBeObeyed w i → MayBeObeyed w j → OneHeard w i j → i ≡ j
same_request s w i j a x y (inl e) = e
same_request s w i j a x y (inr (inl h)) = absurd (x.kept (was_told s w i a h))
same_request s w i j a x y (inr (inr h)) = absurd (y.kept (was_told s w j a h))

pub one_command : TwoEnds → OneCommand
one_command two command n s w i seals c p q e f x y =
    let claims = two n s w i in
    let r = delivered_sent s w p claims.once x.was_delivered in
    let o = delivered_sent s w q claims.once y.was_delivered in
    let heard_one = one_heard command s w c r.0 o.0 seals r.1 o.1 (ap command r.2 ∙ e) (ap command o.2 ∙ f) in
    same_request s w p q claims.that_request x y (subst (λ k. OneHeard w p k) o.2 (subst (λ k. OneHeard w k o.0.number) r.2 heard_one))
