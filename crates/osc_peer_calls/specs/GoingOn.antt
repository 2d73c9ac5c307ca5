-- To be believed: how what the near device does extends the list of what happens at two devices (RFC 8613, 3.1, 7.2.1, 7.4, 8 and B.1). w is the list before, v the
-- list after, s the context as the near device asks under it, n how many pending requests it has room for; h and g are histories of its server, k and m of its
-- client, old, mid and new are its numbers.
use Rattle.std.specs.Prelude.{◌≡◌, ◌⊎◌, ℕ, ◌<◌, ◌≤◌, ◌^◌, Option, Some, None, max, true}
use Rattle.osc_context.specs.SecurityContext.{SecurityContext}
use Rattle.osc_protect.specs.Protection.{as_notified}
use Rattle.osc_window.specs.declared.window_size.WindowSize.{WindowSize}
use Rattle.osc_life.specs.declared.start.Start.{Start}
use Rattle.osc_life.specs.declared.start.Start.TheVariants as starts
use Rattle.osc_client.specs.ClientAnswer.{ClientAnswer}
use Rattle.osc_client.specs.ClientHistory as client
use Rattle.osc_endpoint.specs.ServerAnswer.{ServerAnswer}
use Rattle.osc_life.specs.ServerHistory as server
use Rattle.osc_kept_ends.specs.EchoNumber.{echo_of}
use Rattle.osc_kept_ends.specs.KeptAsking as asking
use Rattle.osc_kept_ends.specs.KeptServing as serving
use Rattle.osc_kept_ends.specs.Numbering.{Own, AreAlike, Goes, nothing_drawn, upcoming, use_of}
use Rattle.osc_kept_ends.specs.Peering.{ClientPasses, IsKeptOn, IsPeerStart, MayDraw, ServerPasses}
use Rattle.osc_kept.specs.EchoNumbers.{EchoesHeard, sealed_echo}
use Rattle.osc_kept.specs.InWorld.{IsHeld}
use Rattle.osc_kept.specs.Premises.{NobodyForgesRequests, NobodyForgesResponses}
use Rattle.osc_kept.specs.World.{World, Client, ClientStarts, ServerStarts, Draws, Reserves, AtClient, AtServer, Has, client_history, delivered, server_history}
use Rattle.osc_peers.specs.Peers.{PeerEvent, Forth, Back, Peers, More, BothPeers, back, forth, near_numbers}
use Rattle.osc_peers.specs.Roles.{turned}
use Rattle.osc_peer_calls.specs.Counting.{AreCounted}

-- the device runs in the list, with these histories of its two roles and these numbers; the floor that its record knows may be another one (own rule)
pub record PeerRuns (s : SecurityContext) (w : Peers) (h : server.History) (k : client.History) (own : Own) : Type 0 where
  pub server_is : server_history (turned s) (back w) ≡ Some h
  pub client_is : client_history s (forth w) ≡ Some k
  pub numbers_are : AreAlike (near_numbers s w) own

-- ---- what is added

-- the near device's server passes over so many numbers (RFC 8613, 7.2.1)
abbrev pub server_skip : ℕ → PeerEvent
server_skip count = Back (AtServer (server.Skip 0 count) server.Skipped)

-- its client passes over so many numbers (RFC 8613, 7.2.1)
abbrev pub client_skip : ℕ → PeerEvent
client_skip count = Forth (AtClient (client.Skip count) client.Skipped)

-- a role of the device passes over numbers, or doesn't (RFC 8613, 7.2.1)
abbrev pub IsPassed : (ℕ → PeerEvent) → Peers → Peers → Type 0
IsPassed skip w v = (v ≡ w) ⊎ ((count : ℕ) × (v ≡ More w (skip count)))

-- the device draws a number, or doesn't; a draw is of no role, and stands in the list as one of the client (RFC 8613, 7.2.1 and B.1.1)
abbrev pub IsDrawn : Peers → Peers → Type 0
IsDrawn w v = (v ≡ w) ⊎ ((v ≡ More w (Forth (Draws Client))) ⊎ (v ≡ More w (Forth (Reserves Client))))

-- a call adds this event, behind at most one passing over and at most one draw, and nothing else (RFC 8613, 7.2.1 and B.1.1)
pub record Adds (skip : ℕ → PeerEvent) (w : Peers) (event : PeerEvent) (v : Peers) : Type 0 where
  pub passed : Peers
  pub passes : IsPassed skip w passed
  pub drawn : Peers
  pub draws : IsDrawn passed drawn
  pub ends : v ≡ More drawn event

-- all that was delivered has numbers below this one (RFC 8613, 7.4)
abbrev pub IsAboveReceived : Peers → ℕ → Type 0
IsAboveReceived w x = (n : ℕ) → Has n (delivered (back w)) → n < x

-- the list meets the premises, so all of it is as claimed (RFC 8613, 3.1, 5.2, 7.4 and 8.4)
pub record IsAsClaimed (n : ℕ) (s : SecurityContext) (w : Peers) : Type 0 where
  pub counted : AreCounted n s w
  pub claims : BothPeers s w

-- a number is drawn, or none; one is used, or none; and the record may be written once more (RFC 8613, B.1.1)
pub record Moves (used : Option ℕ) (old new : Own) : Type 0 where
  pub drawn : Own
  pub mid : Own
  pub draws : MayDraw old drawn
  pub uses : Goes (use_of used) drawn mid
  pub kept_on : IsKeptOn mid new

-- ---- what the device doesn't see to by itself

-- an event of a server that has the one context with which it started, and no restart in place (own rule)
abbrev pub IsOfServer : server.Event → Type 0
IsOfServer (server.Add context start size places) = ⊥
IsOfServer (server.Restart context next) = ⊥
IsOfServer (server.Replace context by start size) = ⊥
IsOfServer event = Unit {0}

-- an event of a client that has no restart in place (own rule)
abbrev pub IsOfClient : client.Event → Type 0
IsOfClient (client.Restart next) = ⊥
IsOfClient event = Unit {0}

-- the Echo values of the event are those of this number: the fresh one of a datagram is, and so is that of a reply that has one, which then asks for a Partial IV of
-- its own; a notification has none (RFC 9175, 2.3 and A, method 3)
abbrev pub HasEchoOf : ℕ → server.Event → Type 0
HasEchoOf number (server.Datagram now echo mid d) = echo ≡ echo_of number
HasEchoOf number (server.Reply t own mid p room) = (sealed_echo p ≡ None) ⊎ ((own ≡ true) × (sealed_echo p ≡ Some (echo_of number)))
HasEchoOf number (server.Notify t p room) = sealed_echo (as_notified p) ≡ None
HasEchoOf number event = Unit {0}

-- for a datagram: nobody forged it; for a reply or a notification: a delivery gave its ticket, and no reply took it (RFC 8613, 8.3 and 12)
abbrev pub ServerTrusts : SecurityContext → World → server.History → server.Event → server.Entry → Type 0
ServerTrusts s w h (server.Datagram now echo mid d) entry = NobodyForgesRequests s w d
ServerTrusts s w h (server.Reply t own mid p room) (server.Replied bytes) = IsHeld h t
ServerTrusts s w h (server.Notify t p room) (server.Replied bytes) = IsHeld h t
ServerTrusts s w h event entry = Unit {0}

-- for a datagram: nobody forged it; for a request: an Echo value that it has was heard before (RFC 8613, 12; RFC 9175, 2.3)
abbrev pub ClientTrusts : SecurityContext → World → client.History → client.Event → client.Entry → Type 0
ClientTrusts s w k (client.Datagram now d) entry = NobodyForgesResponses s w (client.pending_at k (max (client.clock k) now)) d
ClientTrusts s w k (client.Request now p room) entry = EchoesHeard w (AtClient (client.Request now p room) entry)
ClientTrusts s w k event entry = Unit {0}

-- ---- the steps

-- the server passes over numbers, or doesn't (RFC 8613, 7.2.1)
abbrev pub MayPass : server.History → server.History → Type 0
MayPass h g = (g ≡ h) ⊎ ServerPasses h g

-- the client passes over numbers, or doesn't (RFC 8613, 7.2.1)
abbrev pub MayPassAsking : ℕ → client.History → client.History → Type 0
MayPassAsking n k m = (m ≡ k) ⊎ ClientPasses n k m

-- if it is a delivery, its number is below this one (RFC 8613, 7.4)
abbrev pub DeliversUnder : server.Entry → ℕ → Type 0
DeliversUnder (server.Took (server.Deliver received ticket) reply) x = ticket.number < x
DeliversUnder entry x = Unit {0}

-- what was above all deliveries is so still, if it is above the one that this event may be (RFC 8613, 7.4)
abbrev pub StaysAbove : Peers → server.Entry → Peers → Type 0
StaysAbove w entry v = (x y : ℕ) → DeliversUnder entry y → IsAboveReceived w x → IsAboveReceived v (max x y)

-- what the device answers to an event as a server extends the list to one that meets the premises too, if others do their part (RFC 8613, 8.2, 8.3 and B.1.1)
abbrev pub AnswersInList : Type 0
AnswersInList = (n : ℕ) (s : SecurityContext) (w : Peers) (h g : server.History) (k : client.History) (event : server.Event) (entry : server.Entry) (old new : Own) → AreCounted n s w
    → PeerRuns s w h k old → MayPass h g → IsOfServer event → HasEchoOf (upcoming old) event → ServerAnswer g event entry → Moves (serving.uses g event entry) old new
    → ServerTrusts (turned s) (back w) h event entry
    → (v : Peers) × Adds server_skip w (Back (AtServer event entry)) v × IsAsClaimed n s v × PeerRuns s v (server.Then g event entry) k new × StaysAbove w entry v

-- so does what it does as a client, and that delivers no request (RFC 8613, 8.1, 8.4 and B.1.1)
abbrev pub AsksInList : Type 0
AsksInList = (n : ℕ) (s : SecurityContext) (w : Peers) (h : server.History) (k m : client.History) (event : client.Event) (entry : client.Entry) (old new : Own) → AreCounted n s w
    → PeerRuns s w h k old → MayPassAsking n k m → IsOfClient event → ClientAnswer n m event entry → Moves (asking.uses m event entry) old new
    → ClientTrusts s (forth w) k event entry
    → (v : Peers) × Adds client_skip w (Forth (AtClient event entry)) v × IsAsClaimed n s v × PeerRuns s v h (client.Then m event entry) new
    × (delivered (back v) ≡ delivered (back w))

-- both roles of the device start after all that happened before (RFC 8613, B.1)
abbrev pub both_started : Start → WindowSize → ℕ → ℕ → Peers → Peers
both_started start size sender life_ms w = More (More w (Back (ServerStarts start size))) (Forth (ClientStarts sender life_ms))

-- and the device draws its first number if it starts fresh (RFC 8613, B.1.1)
abbrev pub peer_started : Start → WindowSize → ℕ → ℕ → Peers → Peers
peer_started (starts.Fresh first) size sender life_ms w = More (both_started (starts.Fresh first) size sender life_ms w) (Forth (Reserves Client))
peer_started (starts.Restarted first) size sender life_ms w = both_started (starts.Restarted first) size sender life_ms w
peer_started (starts.Received first highest) size sender life_ms w = both_started (starts.Received first highest) size sender life_ms w
peer_started (starts.Reserved first highest ahead) size sender life_ms w = both_started (starts.Reserved first highest ahead) size sender life_ms w

-- a start with the two numbers of a record does so too if the one isn't below the floor, and the other is above all that was delivered; the record may know other
-- floors, as that of a later process may (RFC 8613, 7.4, 7.5 and B.1)
abbrev pub StartsInList : Type 0
StartsInList = (n : ℕ) (s : SecurityContext) (w : Peers) (ahead : ℕ) (start : Start) (size : WindowSize) (sender received life_ms floor : ℕ) → AreCounted n s w
    → IsPeerStart ahead start sender received → sender < 2 ^ 40 → (near_numbers s w).floor ≤ sender → IsAboveReceived w received
    → IsAsClaimed n s (peer_started start size sender life_ms w)
    × PeerRuns s (peer_started start size sender life_ms w) (server.Then server.Begin (server.Add (turned s) start size 1) (server.Added 0)) (client.New s sender life_ms)
    (serving.started start sender (nothing_drawn floor))
    × (delivered (back (peer_started start size sender life_ms w)) ≡ delivered (back w))
