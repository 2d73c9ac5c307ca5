-- To be believed: that the logs of a client's run and of a server's run are such an exchange: a contract of laws.rt (RFC 8613, 8.1 to 8.4).
-- i is the index of the server's context, n the number of pending requests that the client has room for, x and y are the exchanges before and after a turn, ts and us
-- the tickets that the server's run has then, bs the datagrams that the client sealed, next is its next number.
use Rattle.std.specs.Prelude.{◌≡◌, ◌≢◌, ◌≤◌, ◌+◌, ◌↔◌, ◌⊎◌, ℕ, Bool, true, false, List, [], ◌∷◌, Option, Some, Ok, Contains, map}
use Rattle.osc_coap.specs.Datagram.{Parts, IsDatagram}
use Rattle.osc_context.specs.Views.{number_of}
use Rattle.osc_protect.specs.Protection.{as_notified}
use Rattle.osc_protect.specs.Sealed.{inside}
use Rattle.osc_endpoint.specs.declared.client_event.ClientEvent.{ClientEvent}
use Rattle.osc_endpoint.specs.declared.client_event.ClientEvent.TheVariants as asks
use Rattle.osc_endpoint.specs.declared.client_event.ClientEntry.{ClientEntry}
use Rattle.osc_endpoint.specs.declared.client_event.ClientEntry.TheVariants as heard
use Rattle.osc_life.specs.declared.seen.Seen.{Seen}
use Rattle.osc_life.specs.declared.seen.Seen.TheVariants as seen
use Rattle.osc_endpoint.specs.declared.server_event.ServerEvent.{ServerEvent}
use Rattle.osc_endpoint.specs.declared.server_event.ServerEvent.TheVariants as events
use Rattle.osc_endpoint.specs.declared.server_event.ServerEntry.{ServerEntry}
use Rattle.osc_endpoint.specs.declared.server_event.ServerEntry.TheVariants as entries
use Rattle.osc_client.specs.ClientHistory as client
use Rattle.osc_endpoint.specs.ClientRun as asking
use Rattle.osc_laws.specs.Exchange.{Exchange, Request, Response, IsHonest, IsWaitedFor, by_ticket, client_clock, client_of, said, sent, server_clock, server_of, tickets}
use Rattle.osc_life.specs.Life.{Life, Admits}
use Rattle.osc_life.specs.LifeAnswer.{asks_own}
use Rattle.osc_life.specs.ServerHistory as server
use Rattle.osc_endpoint.specs.ServerRun as serving
use Rattle.osc_client.specs.Views.{client_hearing_of}
use Rattle.osc_life.specs.Views.{seen_delivery}

-- the tickets at the places of a server's run (own rule)
abbrev pub Places : Type 0
Places = List (Option server.TicketValues)

-- a turn: an event of the one run or of the other, with its entry in the log (own rule)
pub data Turn : Type 0 where
  OfClient : (event : ClientEvent) (entry : ClientEntry) → Turn
  OfServer : (event : ServerEvent) (entry : ServerEntry) → Turn

-- the events of the client's run, in their turns (own rule)
abbrev pub client_events : List Turn → List ClientEvent
client_events [] = []
client_events (OfClient event entry ∷ turns) = event ∷ client_events turns
client_events (OfServer event entry ∷ turns) = client_events turns

-- the log of the client's run (own rule)
abbrev pub client_log : List Turn → List ClientEntry
client_log [] = []
client_log (OfClient event entry ∷ turns) = entry ∷ client_log turns
client_log (OfServer event entry ∷ turns) = client_log turns

-- the events of the server's run (own rule)
abbrev pub server_events : List Turn → List ServerEvent
server_events [] = []
server_events (OfClient event entry ∷ turns) = server_events turns
server_events (OfServer event entry ∷ turns) = event ∷ server_events turns

-- the log of the server's run (own rule)
abbrev pub server_log : List Turn → List ServerEntry
server_log [] = []
server_log (OfClient event entry ∷ turns) = server_log turns
server_log (OfServer event entry ∷ turns) = entry ∷ server_log turns

-- what the server's log shows is no delivery under this context, and no bad plaintext (RFC 8613, 8.2)
abbrev pub ShowsElsewhere : ℕ → Seen → Type 0
ShowsElsewhere i seen.BadInner = ⊥
ShowsElsewhere i (seen.Deliver opened context number) = i ≢ context
ShowsElsewhere i x = Unit {0}

-- the turn is fair: what is delivered under this context is a datagram that the client sealed, and a restart doesn't lower the client's next number
-- (RFC 8613, 7.2.1 and 8.2)
abbrev pub IsFair : ℕ → ℕ → List (List ℕ) → Turn → Type 0
IsFair i next bs (OfClient (asks.Restart first) entry) = next ≤ number_of first
IsFair i next bs (OfServer (events.Datagram a) (entries.Took x reply)) = ShowsElsewhere i x ⊎ Contains bs a.bytes.items
IsFair i next bs turn = Unit {0}

-- the client's next number after a turn (RFC 8613, 7.2.1)
abbrev pub next_after : ℕ → Turn → ℕ
next_after next (OfClient (asks.Request now plain out) (heard.Sent number datagram)) = next + 1
next_after next (OfClient (asks.Restart first) entry) = number_of first
next_after next turn = next

-- the datagrams that the client sealed, after a turn (RFC 8613, 8.1)
abbrev pub sealed_after : List (List ℕ) → Turn → List (List ℕ)
sealed_after bs (OfClient (asks.Request now plain out) (heard.Sent number datagram)) = datagram.now ∷ bs
sealed_after bs turn = bs

-- each turn is fair (own rule)
abbrev pub AreFair : ℕ → ℕ → List (List ℕ) → List Turn → Type 0
AreFair i next bs [] = Unit {0}
AreFair i next bs (turn ∷ turns) = IsFair i next bs turn × AreFair i (next_after next turn) (sealed_after bs turn) turns

-- the turn is the next one of its run, and the other end waits (own rule)
abbrev pub IsNext : ℕ → Exchange → Places → Turn → Exchange → Places → Type 0
IsNext n x ts (OfClient event entry) y us = asking.ClientRunStep n (client_of x) event entry (client_of y) × (server_of y ≡ server_of x) × (us ≡ ts)
IsNext n x ts (OfServer event entry) y us = serving.ServerRunStep (server_of x) ts event entry (server_of y) us × (client_of y ≡ client_of x)

-- what the log shows of a reply: the response by the ticket at this place says what the plain message does (RFC 8613, 8.3)
abbrev pub ReplyShows : Exchange → Places → ℕ → Bool → List ℕ → ServerEntry → Exchange → Type 0
ReplyShows x ts of own plain (entries.Replied (Ok sealed)) y = (t : server.TicketValues) × (serving.ticket_at ts of ≡ Some t)
    × (p : Parts) × IsDatagram p plain × Contains (said y) (by_ticket (server_of x) t (asks_own t own) false (inside p) sealed.datagram.now)
ReplyShows x ts of own plain entry y = Unit {0}

-- what the log shows of a notification: the same, with an empty Observe inside (RFC 8613, 4.1.3.5.2 and 8.3.1)
abbrev pub NotifyShows : Exchange → Places → ℕ → List ℕ → ServerEntry → Exchange → Type 0
NotifyShows x ts of plain (entries.Replied (Ok sealed)) y = (t : server.TicketValues) × (serving.ticket_at ts of ≡ Some t)
    × (p : Parts) × IsDatagram p plain × Contains (said y) (by_ticket (server_of x) t true true (inside (as_notified p)) sealed.datagram.now)
NotifyShows x ts of plain entry y = Unit {0}

-- what the log shows of a turn: what was sealed; that a request of the client's which arrives is delivered, as it was said, if and only if it is admitted; and that a
-- response of the server's which arrives is heard, as it was said, if and only if it is waited for (RFC 8613, 8.1 to 8.4)
abbrev pub Shows : ℕ → Exchange → Places → Turn → Exchange → Type 0
Shows i x ts (OfClient (asks.Request now plain out) (heard.Sent number datagram)) y =
    (p : Parts) × IsDatagram p plain.items × Contains (sent y) (record { number = number_of number; plain = p; bytes = datagram.now })
Shows i x ts (OfClient (asks.Datagram now bytes) (heard.Took outcome)) y = (r : Response) → Contains (said x) r → r.context ≡ i → r.bytes ≡ bytes.items
    → (client_hearing_of outcome ≡ Some (r.notifies, r.to, r.own, r.message)) ↔ IsWaitedFor (client_of x) (client_clock x now) r
Shows i x ts (OfServer (events.Datagram a) (entries.Took seen reply)) y = (s : Request) (of : Life) → Contains (sent x) s → s.bytes ≡ a.bytes.items
    → server.life (server_of x) i ≡ Some of → (seen_delivery seen ≡ Some (i, s.number, inside s.plain)) ↔ Admits of (server_clock x a.now) s.number (inside s.plain)
Shows i x ts (OfServer (events.Reply r) entry) y = ReplyShows x ts r.of r.own r.plain.items entry y
Shows i x ts (OfServer (events.Notify r) entry) y = NotifyShows x ts r.of r.plain.items entry y
Shows i x ts turn y = Unit {0}

-- the exchange goes on by this turn (own rule)
pub record GoesOn (n i : ℕ) (x : Exchange) (ts : Places) (turn : Turn) (y : Exchange) (us : Places) : Type 0 where
  pub honest : IsHonest n i y
  pub next : IsNext n x ts turn y us
  pub shows : Shows i x ts turn y

-- so it does by each turn, one after another, up to these histories (own rule)
abbrev pub Plays : ℕ → ℕ → Exchange → Places → List Turn → client.History → server.History → Type 0
Plays n i x ts [] h g = (client_of x ≡ h) × (server_of x ≡ g)
Plays n i x ts (turn ∷ turns) h g = (y : Exchange) × (us : Places) × GoesOn n i x ts turn y us × Plays n i y us turns h g

-- the tickets of this context that the server's run has are some that were given (own rule)
abbrev pub AreGiven : ℕ → Places → Exchange → Type 0
AreGiven i ts x = (of : ℕ) (t : server.TicketValues) → serving.ticket_at ts of ≡ Some t → t.context ≡ i → Contains (tickets x) t

-- a client's run and a server's run that go on from an honest exchange, in turns that are fair, go on with it (RFC 8613, 8.1 to 8.4)
abbrev pub RunsAreHonest : Type 0
RunsAreHonest = (n i : ℕ) (x : Exchange) (ts us : Places) (turns : List Turn) (h : client.History) (g : server.History) → IsHonest n i x → AreGiven i ts x
    → asking.Run n (client_of x) (client_events turns) (client_log turns) h → serving.Run (server_of x) ts (server_events turns) (server_log turns) g us
    → AreFair i (client.next (client_of x)) (map (λ (s : Request). s.bytes) (sent x)) turns → Plays n i x ts turns h g
