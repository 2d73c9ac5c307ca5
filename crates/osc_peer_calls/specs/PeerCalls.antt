-- To be believed: the calls of a peer within the list of what happens at two devices (RFC 8613, 3.1, 7.4, 8.1 to 8.4 and B.1). w is the list before, v the list
-- after, s the context as the device asks under it, old and new are the peer before and after.
use Rattle.std.specs.Prelude.{◌≡◌, ℕ, List, Some, max}
use Rattle.osc_context.specs.SecurityContext.{SecurityContext}
use Rattle.osc_context.specs.declared.record_keeper.RecordKeeper as keeper
use Rattle.osc_window.specs.declared.window_size.WindowSize.{WindowSize}
use Rattle.osc_client.specs.ClientDeciding as client_deciding
use Rattle.osc_client.specs.ClientHistory as client
use Rattle.osc_client.specs.Views.{ClientShows}
use Rattle.osc_client.specs.declared.client_outcome.ClientOutcome.{ClientOutcome}
use Rattle.osc_client.specs.declared.decision.ClientDecision.{ClientDecision}
use Rattle.osc_life.specs.Deciding as deciding
use Rattle.osc_life.specs.ServerHistory as server
use Rattle.osc_life.specs.Views.{Shows}
use Rattle.osc_life.specs.declared.decision.Decision.{Decision}
use Rattle.osc_life.specs.declared.outcome.Outcome.{Outcome}
use Rattle.osc_life.specs.declared.start.Start.{Start}
use Rattle.osc_kept_ends.specs.declared.kept_peer.KeptPeer.{KeptPeer}
use Rattle.osc_kept_ends.specs.EchoNumber.{echo_of}
use Rattle.osc_kept_ends.specs.Numbering.{upcoming}
use Rattle.osc_kept_ends.specs.PeerOwning.{own_in}
use Rattle.osc_kept_ends.specs.Peering.{ClientIsBehind, ServerIsBehind}
use Rattle.osc_kept.specs.InWorld.{IsHeld}
use Rattle.osc_kept.specs.Premises.{NobodyForgesRequests, NobodyForgesResponses}
use Rattle.osc_kept.specs.World.{AtClient, AtServer, client_history, server_history}
use Rattle.osc_peers.specs.Peers.{Forth, Back, Peers, back, forth}
use Rattle.osc_peers.specs.Roles.{turned}
use Rattle.osc_peer_calls.specs.GoingOn.{Adds, IsAboveReceived, IsAsClaimed, PeerRuns, client_skip, peer_started, server_skip}

-- the peer is the near device of the list (own rule)
pub record RunsIn {R : Type 0} {r : keeper.Ghosts R} {N : ℕ} (s : SecurityContext) (w : Peers) (p : KeptPeer R N r) : Type 0 where
  pub h : server.History
  pub k : client.History
  pub runs : PeerRuns s w h k (own_in p.source)
  pub server : ServerIsBehind p.server (upcoming (own_in p.source)) h
  pub client : ClientIsBehind p.client (upcoming (own_in p.source)) k

-- ---- what others see to

-- nobody forged what comes to the device as a request (RFC 8613, 12.3 and 12.6)
abbrev pub NobodyForgesTo : SecurityContext → Peers → List ℕ → Type 0
NobodyForgesTo s w d = NobodyForgesRequests (turned s) (back w) d

-- nobody forged what comes to it as a response (RFC 8613, 12.3 and 12.6)
abbrev pub NobodyForgesBack : SecurityContext → Peers → ℕ → List ℕ → Type 0
NobodyForgesBack s w now d = (k : client.History) → client_history s (forth w) ≡ Some k → NobodyForgesResponses s (forth w) (client.pending_at k (max (client.clock k) now)) d

-- a delivery of the device gave the ticket, and no reply took it (own rule)
abbrev pub HoldsTicket : SecurityContext → Peers → server.TicketValues → Type 0
HoldsTicket s w t = (h : server.History) → server_history (turned s) (back w) ≡ Some h → IsHeld h t

-- ---- what a call leaves

-- the list after it is as claimed, and the peer is its near device still; what was above all deliveries is so still, or the record's floor is (RFC 8613, 7.4 and B.1.1)
pub record After {R : Type 0} {r : keeper.Ghosts R} {N : ℕ} (s : SecurityContext) (w v : Peers) (new : KeptPeer R N r) : Type 0 where
  pub claimed : IsAsClaimed N s v
  pub runs : RunsIn s v new
  pub above : (x : ℕ) → IsAboveReceived w x → IsAboveReceived v (max x (r.received_floor new.source.keeper))

-- a call of the server's role adds this event (RFC 8613, 8.2 and 8.3)
abbrev pub AnswersAfter : {R : Type 0} {r : keeper.Ghosts R} {N : ℕ} → SecurityContext → Peers → server.Event → server.Entry → KeptPeer R N r → Type 0
AnswersAfter s w event entry new = (v : Peers) × Adds server_skip w (Back (AtServer event entry)) v × After s w v new

-- so does the decision about a datagram (RFC 8613, 8.2)
abbrev pub DecidesInList : {R : Type 0} {r : keeper.Ghosts R} {N : ℕ} → SecurityContext → Peers → ℕ → ℕ → List ℕ → Decision → List ℕ → List ℕ → KeptPeer R N r → KeptPeer R N r → Type 0
DecidesInList s w now mid d decision left reply old new = (answer : server.Answer) × deciding.Decides decision left answer
    × AnswersAfter s w (server.Datagram now (echo_of (upcoming (own_in old.source))) mid d) (server.Took answer reply) new

-- so does what became of a datagram (RFC 8613, 8.2)
abbrev pub TakesInList : {R : Type 0} {r : keeper.Ghosts R} {N : ℕ} → SecurityContext → Peers → ℕ → ℕ → List ℕ → Outcome → List ℕ → KeptPeer R N r → KeptPeer R N r → Type 0
TakesInList s w now mid d outcome reply old new = (answer : server.Answer) × Shows outcome answer
    × AnswersAfter s w (server.Datagram now (echo_of (upcoming (own_in old.source))) mid d) (server.Took answer reply) new

-- a call of the client's role adds this event (RFC 8613, 8.1 and 8.4)
abbrev pub AsksAfter : {R : Type 0} {r : keeper.Ghosts R} {N : ℕ} → SecurityContext → Peers → client.Event → client.Entry → KeptPeer R N r → Type 0
AsksAfter s w event entry new = (v : Peers) × Adds client_skip w (Forth (AtClient event entry)) v × After s w v new

-- so does the decision about a datagram that may be a response (RFC 8613, 8.4)
abbrev pub DecidesBack : {R : Type 0} {r : keeper.Ghosts R} {N : ℕ} → SecurityContext → Peers → ℕ → List ℕ → ClientDecision → List ℕ → KeptPeer R N r → Type 0
DecidesBack s w now d decision left new = (answer : client.Answer) × client_deciding.Decides decision left answer × AsksAfter s w (client.Datagram now d) (client.Took answer) new

-- so does what became of it (RFC 8613, 8.4)
abbrev pub HearsInList : {R : Type 0} {r : keeper.Ghosts R} {N : ℕ} → SecurityContext → Peers → ℕ → List ℕ → ClientOutcome → KeptPeer R N r → Type 0
HearsInList s w now d outcome new = (answer : client.Answer) × ClientShows outcome answer × AsksAfter s w (client.Datagram now d) (client.Took answer) new

-- a peer starts after all that happened before, above all that was delivered (RFC 8613, 7.4, 7.5 and B.1)
abbrev pub BeginsInList : {R : Type 0} {r : keeper.Ghosts R} {N : ℕ} → SecurityContext → Peers → Start → WindowSize → ℕ → ℕ → ℕ → KeptPeer R N r → Type 0
BeginsInList {N = N} s w start size sender received life_ms new = IsAsClaimed N s (peer_started start size sender life_ms w)
    × RunsIn s (peer_started start size sender life_ms w) new × IsAboveReceived (peer_started start size sender life_ms w) received

-- both clocks of a peer move: one event of each role (own rule)
abbrev pub AdvancesInList : {R : Type 0} {r : keeper.Ghosts R} {N : ℕ} → SecurityContext → Peers → ℕ → KeptPeer R N r → Type 0
AdvancesInList s w now new = (u : Peers) × (v : Peers) × Adds server_skip w (Back (AtServer (server.Advance now) server.Advanced)) u
    × Adds client_skip u (Forth (AtClient (client.Advance now) client.Advanced)) v × After s w v new
