-- To be believed: two devices that both ask and answer under one security context (RFC 8613, 3.1 and 7.2.1): one list of what happens at both, which is two
-- exchanges. In the one the near device is the client, in the other it is the server. Each device has one source of Sender Sequence Numbers for both its roles.
-- s is the context as the near device asks under it, w what happened so far, n how many pending requests a client has room for.
use Rattle.std.specs.Prelude.{◌≡◌, ◌⊎◌, ℕ, List, Option, Some, Contains, max}
use Rattle.osc_coap.specs.Inner.{InnerParts}
use Rattle.osc_context.specs.Nonce.{nonce_of}
use Rattle.osc_context.specs.SecurityContext.{SecurityContext, IsUsable}
use Rattle.osc_protect.specs.CipherLaws.{request_seal, response_seal}
use Rattle.osc_protect.specs.Protection.{Protects, ProtectsRequest, response_nonce}
use Rattle.osc_client.specs.ClientAnswer.{awaited}
use Rattle.osc_client.specs.ClientHistory as client
use Rattle.osc_life.specs.ServerHistory as server
use Rattle.osc_kept_ends.specs.Numbering.{Own, Effect, Allowed, after, nothing_drawn}
use Rattle.osc_kept.specs.Claims.{BothEnds}
use Rattle.osc_kept.specs.Premises.{Answers, AtEach, EchoIsNew, NobodyForges, SealedByClient, SealedByServer, StartsAboveDelivered}
use Rattle.osc_kept.specs.World.{World, Event, Begin, Then, Client, Server, AtClient, AtServer, Has, Request, Response, client_history, effect, sent, answered}
use Rattle.osc_peers.specs.Roles.{turned}

-- an event of the exchange in which the near device asks, or of the one in which the far device asks (own rule)
pub data PeerEvent : Type 0 where
  Forth : (event : Event) → PeerEvent
  Back : (event : Event) → PeerEvent

-- nothing yet, or one more event after those before (own rule)
pub data Peers : Type 0 where
  Nothing : Peers
  More : (before : Peers) (event : PeerEvent) → Peers

-- what happened in the exchange in which the near device asks, as a list of two ends (own rule)
abbrev pub forth : Peers → World
forth Nothing = Begin
forth (More w (Forth event)) = Then (forth w) event
forth (More w (Back event)) = forth w

-- what happened in the exchange in which the far device asks (own rule)
abbrev pub back : Peers → World
back Nothing = Begin
back (More w (Forth event)) = back w
back (More w (Back event)) = Then (back w) event

-- ---- the numbers of both devices

-- what an event does to the one source of the near device, which is a client in the one exchange and a server in the other (RFC 8613, 7.2.1)
abbrev pub near_effect : SecurityContext → Peers → PeerEvent → Effect
near_effect s w (Forth event) = effect Client s (forth w) event
near_effect s w (Back event) = effect Server (turned s) (back w) event

-- what it does to that of the far device (RFC 8613, 7.2.1)
abbrev pub far_effect : SecurityContext → Peers → PeerEvent → Effect
far_effect s w (Forth event) = effect Server s (forth w) event
far_effect s w (Back event) = effect Client (turned s) (back w) event

-- the numbers of the near device, of both its roles and over all its lives (RFC 8613, 7.2.1 and B.1.1)
abbrev pub near_numbers : SecurityContext → Peers → Own
near_numbers s Nothing = nothing_drawn 0
near_numbers s (More w event) = after (near_effect s w event) (near_numbers s w)

-- the numbers of the far device, of both its roles and over all its lives (RFC 8613, 7.2.1 and B.1.1)
abbrev pub far_numbers : SecurityContext → Peers → Own
far_numbers s Nothing = nothing_drawn 0
far_numbers s (More w event) = after (far_effect s w event) (far_numbers s w)

-- each event agrees with the one source of each device: what is used in either role is the number in hand, a number is drawn only if none is in hand, and no load
-- gives one below the floor (RFC 8613, 7.2.1 and B.1.1)
abbrev pub SourcesAreKept : SecurityContext → Peers → Type 0
SourcesAreKept s Nothing = Unit {0}
SourcesAreKept s (More w event) = SourcesAreKept s w × Allowed (near_effect s w event) (near_numbers s w) × Allowed (far_effect s w event) (far_numbers s w)

-- ---- the premises

-- an exchange meets the premises on two ends but for those on numbers and on who sealed: both ends answer by their tables, Echo values are new, and a server starts
-- fresh only while nothing was delivered, or above all that was (RFC 8613, 7.4, 8 and B.1; RFC 9175, 2.3)
pub record IsExchange (n : ℕ) (s : SecurityContext) (w : World) : Type 0 where
  pub answers : AtEach (Answers n s) w
  pub unseen : AtEach (EchoIsNew s) w
  pub fresh : AtEach StartsAboveDelivered w

-- both exchanges meet these, what opens in an exchange was sealed in it by the other device, and the numbers of each device come from its one source
-- (RFC 8613, 3.1, 7.2.1, 12.3 and 12.6)
pub record ArePeers (n : ℕ) (s : SecurityContext) (w : Peers) : Type 0 where
  pub usable : IsUsable s
  pub forth_is : IsExchange n s (forth w)
  pub back_is : IsExchange n (turned s) (back w)
  pub forth_sealed : AtEach (NobodyForges s) (forth w)
  pub back_sealed : AtEach (NobodyForges (turned s)) (back w)
  pub kept : SourcesAreKept s w

-- ---- what holds of them

-- no request of a device and no response that the same device gives have one nonce: the requests are those of this context and exchange, the responses those of
-- the exchange in which the other device asks (RFC 8613, 5.2)
abbrev pub NoncesApart : SecurityContext → World → World → Type 0
NoncesApart s asking answering = (q : Request) (r : Response) → Has q (sent s asking) → Has r (answered (turned s) answering)
    → nonce_of s.common_iv s.client q.number ≡ response_nonce s.common_iv s.server s.client r.number r.own → ⊥

-- each exchange is as `both_ends` says, by which no two requests of a device and no two responses of it have one nonce; and over both its roles no device seals twice
-- under one nonce either (RFC 8613, 5.2, 7.4 and 8.4)
pub record BothPeers (s : SecurityContext) (w : Peers) : Type 0 where
  pub forth_is : BothEnds s (forth w)
  pub back_is : BothEnds (turned s) (back w)
  pub near_nonces : NoncesApart s (forth w) (back w)
  pub far_nonces : NoncesApart (turned s) (back w) (forth w)

-- whatever happens at both devices and between them, this holds if it meets the premises (RFC 8613, 3.1, 5.2, 7.4 and 8.4)
abbrev pub TwoPeers : Type 0
TwoPeers = (n : ℕ) (s : SecurityContext) (w : Peers) → ArePeers n s w → BothPeers s w

-- ---- the keys tell who sealed, and not in which role

-- what opens as a request was sealed by the device that asks, as a request or, in its other role, as a response (RFC 8613, 12.3 and 12.6)
abbrev pub RequestsOfEither : SecurityContext → World → World → List ℕ → Type 0
RequestsOfEither s asking answering d = (n : ℕ) (m : InnerParts) (p : ProtectsRequest s n m d)
    → SealedByClient s asking (request_seal s n) p.outer.payload ⊎ SealedByServer (turned s) answering (request_seal s n) p.outer.payload

-- what opens as a response was sealed by the device that answers, as a response or, in its other role, as a request (RFC 8613, 12.3 and 12.6)
abbrev pub ResponsesOfEither : SecurityContext → World → World → List client.Asked → List ℕ → Type 0
ResponsesOfEither s asking answering pending d = (r : client.Asked) (own : Option ℕ) (m : InnerParts) → Contains pending r → (p : Protects (awaited s r) own m d)
    → SealedByServer s asking (response_seal s r.number own) p.outer.payload ⊎ SealedByClient (turned s) answering (response_seal s r.number own) p.outer.payload

-- both of these, for the datagrams that arrive in one exchange (RFC 8613, 12.3 and 12.6)
abbrev pub OfEither : SecurityContext → World → World → Event → Type 0
OfEither s asking answering (AtServer (server.Datagram now echo mid d) entry) = RequestsOfEither s asking answering d
OfEither s asking answering (AtClient (client.Datagram now d) entry) = (h : client.History) → client_history s asking ≡ Some h
    → ResponsesOfEither s asking answering (client.pending_at h (max (client.clock h) now)) d
OfEither s asking answering event = Unit {0}

-- what opens at a device was sealed by the other one before, under the same key, nonce and additional data, in whichever role (RFC 8613, 12.3 and 12.6)
abbrev pub SealedInEither : SecurityContext → Peers → Type 0
SealedInEither s Nothing = Unit {0}
SealedInEither s (More w (Forth event)) = SealedInEither s w × OfEither s (forth w) (back w) event
SealedInEither s (More w (Back event)) = SealedInEither s w × OfEither (turned s) (back w) (forth w) event

-- the premises on two devices, with that one in place of those on who sealed in which exchange: nobody but the two devices makes a text that opens
-- (RFC 8613, 3.1, 7.2.1, 12.3 and 12.6)
pub record AreHonestPeers (n : ℕ) (s : SecurityContext) (w : Peers) : Type 0 where
  pub usable : IsUsable s
  pub forth_is : IsExchange n s (forth w)
  pub back_is : IsExchange n (turned s) (back w)
  pub sealed : SealedInEither s w
  pub kept : SourcesAreKept s w

-- no text crosses from one role into the other, so the same holds under these premises (RFC 8613, 5.4)
abbrev pub HonestPeers : Type 0
HonestPeers = (n : ℕ) (s : SecurityContext) (w : Peers) → AreHonestPeers n s w → BothPeers s w
