-- To be believed: the calls of a peer in bytes within the list of what happens at two devices (RFC 8613, 3.1, 7.4, 8.1 to 8.4 and B.1). w is the list before, v the
-- list after, s the context as the device asks under it, p and q are the bytes before and after, requests are its pending requests, room is how many there is room for.
use Rattle.std.specs.Prelude.{◌≡◌, ◌≤◌, ℕ, List, [], Some, max, true}
use Rattle.std.specs.List.{AllByRecursion}
use Rattle.osc_context.specs.SecurityContext.{SecurityContext}
use Rattle.osc_window.specs.declared.window_size.WindowSize.{WindowSize}
use Rattle.osc_client.specs.ClientDeciding as client_deciding
use Rattle.osc_client.specs.ClientHistory as client
use Rattle.osc_client.specs.Views.{ClientShows}
use Rattle.osc_client.specs.declared.client_outcome.ClientOutcome.{ClientOutcome}
use Rattle.osc_client.specs.declared.decision.ClientDecision.{ClientDecision}
use Rattle.osc_laws.specs.Laws.{AreApart, answered, delivered}
use Rattle.osc_laws.specs.Waiting.{lies_far_back}
use Rattle.osc_life.specs.Deciding as deciding
use Rattle.osc_life.specs.ServerHistory as server
use Rattle.osc_life.specs.Views.{Shows}
use Rattle.osc_life.specs.declared.decision.Decision.{Decision}
use Rattle.osc_life.specs.declared.outcome.Outcome.{Outcome}
use Rattle.osc_life.specs.declared.start.Start.{Start}
use Rattle.osc_kept_ends.specs.EchoNumber.{echo_of}
use Rattle.osc_kept_ends.specs.Numbering.{Own, Load, after, nothing_drawn}
use Rattle.osc_kept.specs.World.{AtClient, AtServer, Has, server_history}
use Rattle.osc_peers.specs.Peers.{Forth, Back, Peers, back}
use Rattle.osc_peers.specs.Roles.{turned}
use Rattle.osc_peer_calls.specs.GoingOn.{Adds, IsAboveReceived, IsAsClaimed, IsDrawn, PeerRuns, client_skip, peer_started, server_skip}
use Rattle.osc_peer_handle.specs.PeerBytes.{AsksBehind, ServesBehind, next_in}
use Rattle.osc_peer_handle.specs.declared.peer_handle.PeerHandle.{PeerHandle}

-- the peer is the near device of the list, with these pending requests (own rule)
pub record RunsIn (s : SecurityContext) (w : Peers) (p : PeerHandle) (requests : List client.Asked) (room : ℕ) : Type 0 where
  pub h : server.History
  pub a : client.History
  pub own : Own
  pub runs : PeerRuns s w h a own
  pub serves : ServesBehind p own h
  pub asks : AsksBehind p requests room own a

-- a delivery of the device gave the ticket; the device itself sees to it that no reply took it yet, unless the ticket's request lies far back: then none did (own rule)
abbrev pub GivesTicketTo : SecurityContext → Peers → server.TicketValues → Type 0
GivesTicketTo s w t = (h : server.History) → server_history (turned s) (back w) ≡ Some h
    → Has t (delivered h) × (lies_far_back h t.context t.life t.number ≡ true → AllByRecursion (AreApart t) (answered h))

-- ---- what a call leaves

-- the list after it is as claimed, and the peer is its near device still; what was above all deliveries is so still, or what was saved is (RFC 8613, 7.4 and B.1.1)
pub record After (s : SecurityContext) (w v : Peers) (q : PeerHandle) (requests : List client.Asked) (room : ℕ) : Type 0 where
  pub claimed : IsAsClaimed room s v
  pub runs : RunsIn s v q requests room
  pub above : (x : ℕ) → IsAboveReceived w x → IsAboveReceived v (max x q.received)

-- a call of the server's role adds this event (RFC 8613, 8.2 and 8.3)
abbrev pub AnswersAfter : SecurityContext → Peers → server.Event → server.Entry → PeerHandle → List client.Asked → ℕ → Type 0
AnswersAfter s w event entry q requests room = (v : Peers) × Adds server_skip w (Back (AtServer event entry)) v × After s w v q requests room

-- so does the decision about a datagram (RFC 8613, 8.2)
abbrev pub DecidesInList : SecurityContext → Peers → ℕ → ℕ → List ℕ → Decision → List ℕ → List ℕ → PeerHandle → PeerHandle → List client.Asked → ℕ → Type 0
DecidesInList s w now mid d decision left reply p q requests room = (answer : server.Answer) × deciding.Decides decision left answer
    × AnswersAfter s w (server.Datagram now (echo_of (next_in p)) mid d) (server.Took answer reply) q requests room

-- so does what became of a datagram (RFC 8613, 8.2)
abbrev pub TakesInList : SecurityContext → Peers → ℕ → ℕ → List ℕ → Outcome → List ℕ → PeerHandle → PeerHandle → List client.Asked → ℕ → Type 0
TakesInList s w now mid d outcome reply p q requests room = (answer : server.Answer) × Shows outcome answer
    × AnswersAfter s w (server.Datagram now (echo_of (next_in p)) mid d) (server.Took answer reply) q requests room

-- a call of the client's role adds this event (RFC 8613, 8.1 and 8.4)
abbrev pub AsksAfter : SecurityContext → Peers → client.Event → client.Entry → PeerHandle → List client.Asked → ℕ → Type 0
AsksAfter s w event entry q requests room = (v : Peers) × Adds client_skip w (Forth (AtClient event entry)) v × After s w v q requests room

-- so does the decision about a datagram that may be a response (RFC 8613, 8.4)
abbrev pub DecidesBack : SecurityContext → Peers → ℕ → List ℕ → ClientDecision → List ℕ → PeerHandle → List client.Asked → ℕ → Type 0
DecidesBack s w now d decision left q requests room = (answer : client.Answer) × client_deciding.Decides decision left answer
    × AsksAfter s w (client.Datagram now d) (client.Took answer) q requests room

-- so does what became of it (RFC 8613, 8.4)
abbrev pub HearsInList : SecurityContext → Peers → ℕ → List ℕ → ClientOutcome → PeerHandle → List client.Asked → ℕ → Type 0
HearsInList s w now d outcome q requests room = (answer : client.Answer) × ClientShows outcome answer × AsksAfter s w (client.Datagram now d) (client.Took answer) q requests room

-- a save adds at most a draw, which is of no role (RFC 8613, B.1.1)
abbrev pub SavesInList : SecurityContext → Peers → PeerHandle → List client.Asked → ℕ → Type 0
SavesInList s w q requests room = (v : Peers) × IsDrawn w v × After s w v q requests room

-- a peer starts after all that happened before, above all that was delivered (RFC 8613, 7.4, 7.5 and B.1)
abbrev pub BeginsInList : SecurityContext → Peers → Start → WindowSize → ℕ → ℕ → ℕ → PeerHandle → ℕ → Type 0
BeginsInList s w start size sender received life_ms q room = IsAsClaimed room s (peer_started start size sender life_ms w)
    × RunsIn s (peer_started start size sender life_ms w) q [] room × IsAboveReceived (peer_started start size sender life_ms w) received

-- the peer starts at 0, and no number was saved for it yet (RFC 8613, B.1.1)
abbrev pub IsUnsaved : SecurityContext → Start → WindowSize → ℕ → PeerHandle → Type 0
IsUnsaved s start size life_ms p = (floor room : ℕ) → floor ≤ 0
    → ServesBehind p (after (Load 0) (nothing_drawn floor)) (server.Then server.Begin (server.Add (turned s) start size 1) (server.Added 0))
    × AsksBehind p [] room (after (Load 0) (nothing_drawn floor)) (client.New s 0 life_ms)
