-- To be believed: what holds of a world that meets the premises, at each event over the events before it (RFC 8613, 5.2, 7.4 and 8.4).
-- s is the security context, w the world before the event.
use Rattle.std.specs.Prelude.{◌≡◌, ◌⊎◌, ℕ, List, [], ◌∷◌, true, false, IfSome}
use Rattle.osc_context.specs.Nonce.{nonce_of}
use Rattle.osc_context.specs.SecurityContext.{SecurityContext}
use Rattle.osc_protect.specs.Protection.{response_nonce}
use Rattle.osc_client.specs.ClientHistory as client
use Rattle.osc_observe.specs.Observing.{registers}
use Rattle.osc_life.specs.ServerHistory as server
use Rattle.osc_kept.specs.Freshness.{OpensFresh}
use Rattle.osc_kept.specs.Premises.{AtEach, IsLawful}
use Rattle.osc_kept.specs.World.{World, Event, Begin, Then, AtClient, AtServer, Has, Request, Response, sent, answered, delivered, heard, heard_in}

-- a request that is delivered was sealed by the client before, with that code, those inner options and that payload, and it wasn't delivered before, in
-- any life (RFC 8613, 7.4)
abbrev pub DeliversOnce : SecurityContext → World → Event → Type 0
DeliversOnce s w (AtServer (server.Datagram now echo mid d) (server.Took (server.Deliver received ticket) reply)) =
    Has (record { number = ticket.number; message = received.message }) (sent s w) × (Has ticket.number (delivered w) → ⊥)
DeliversOnce s w event = Unit {0}

-- a fact about each response that the client delivers, over the world before that event (own rule)
abbrev pub AtEachHeard : (World → Response → Type 0) → World → Type 0
AtEachHeard P w = AtEach (λ v event. IfSome (heard_in event) (P v)) w

-- the server sealed the response before, for that very request, and there is exactly one such request (RFC 8613, 8.4)
pub record IsForThatRequest (s : SecurityContext) (w : World) (x : Response) : Type 0 where
  pub was_answered : Has x (answered s w)
  pub request : Request
  pub was_sent : Has request (sent s w)
  pub number_is : request.number ≡ x.number
  pub one_alone : (r : Request) → Has r (sent s w) → r.number ≡ x.number → r ≡ request

-- the nonces of these differ (RFC 8613, 5.2)
abbrev pub HaveOwnNonces : {A : Type 0} → (A → List ℕ) → List A → Type 0
HaveOwnNonces nonce [] = Unit {0}
HaveOwnNonces {A} nonce (x ∷ xs) = ((y : A) → Has y xs → nonce y ≡ nonce x → ⊥) × HaveOwnNonces nonce xs

-- no two requests were sealed under one nonce, nor two responses, of which a challenge is one (RFC 8613, 5.2 and 7.2.1)
abbrev pub SealsUnderNewNonces : SecurityContext → World → Type 0
SealsUnderNewNonces s w = HaveOwnNonces (λ r. nonce_of s.common_iv s.client r.number) (sent s w)
    × HaveOwnNonces (λ r. response_nonce s.common_iv s.client s.server r.number r.own) (answered s w)

-- x was sealed after y, in a list that has the newest response first (own rule)
abbrev pub IsAfter : Response → Response → List Response → Type 0
IsAfter x y [] = ⊥
IsAfter x y (r ∷ rs) = ((x ≡ r) × Has y rs) ⊎ IsAfter x y rs

-- the client didn't hear this response before, in any life, and each response to the same request that it heard was sealed before this one (RFC 8613, 4.1.3.5.2 and 7.4.1)
pub record IsNext (s : SecurityContext) (w : World) (x : Response) : Type 0 where
  pub once : Has x (heard w) → ⊥
  pub in_order : (y : Response) → Has y (heard w) → y.number ≡ x.number → IsAfter x y (answered s w)

-- what is notified was registered: its request registers an observation (RFC 8613, 4.1.3.5.1)
abbrev pub NotifiesRegistrations : SecurityContext → World → Event → Type 0
NotifiesRegistrations s w (AtClient (client.Datagram now d) (client.Took (client.Notified received number))) =
    (r : Request) → Has r (sent s w) → r.number ≡ number → registers s.features r.message.code r.message.options ≡ true
NotifiesRegistrations s w event = Unit {0}

-- if the request registers nothing, nothing was heard for it yet, in any life (RFC 7252, 5.3.2)
abbrev pub IsUnheard : SecurityContext → World → Response → Type 0
IsUnheard s w x = (q : Request) → Has q (sent s w) → q.number ≡ x.number → registers s.features q.message.code q.message.options ≡ false
    → (y : Response) → Has y (heard w) → y.number ≡ x.number → ⊥

-- the numbers of the requests whose last response was delivered, over all lives (RFC 7641, 3.2)
abbrev pub ended : World → List ℕ
ended Begin = []
ended (Then w (AtClient (client.Datagram now d) (client.Took (client.Deliver received number)))) = number ∷ ended w
ended (Then w event) = ended w

-- the last response to the request wasn't heard before (RFC 7252, 5.3.2; RFC 7641, 3.2)
abbrev pub IsUnended : World → Response → Type 0
IsUnended w x = Has x.number (ended w) → ⊥

-- what holds of two ends over all their lives (RFC 8613, 5.2, 7.4 and 8.4)
pub record BothEnds (s : SecurityContext) (w : World) : Type 0 where
  pub once : AtEach (DeliversOnce s) w
  pub that_request : AtEachHeard (IsForThatRequest s) w
  pub nonces : SealsUnderNewNonces s w
  pub in_order : AtEachHeard (IsNext s) w
  pub registered : AtEach (NotifiesRegistrations s) w
  pub plain_once : AtEachHeard (IsUnheard s) w
  pub no_more : AtEachHeard IsUnended w
  pub opens_fresh : AtEach (OpensFresh s) w

-- whatever happens at both ends and between them, this holds if it meets the premises (RFC 8613, 5.2, 7.4 and 8.4)
abbrev pub TwoEnds : Type 0
TwoEnds = (n : ℕ) (s : SecurityContext) (w : World) → IsLawful n s w → BothEnds s w
