-- To be believed: what the bytes of a peer say in both of its roles (RFC 8613, 3.1, 7.2.1, 7.4 and B.1). p are the bytes before a call, q those after it, o, old and
-- new are its numbers, h and g histories of its server, a and b of its client, requests are its pending requests, room is how many of them there is room for.
use Rattle.std.specs.Prelude.{◌≡◌, ◌⊎◌, ◌+◌, ◌<◌, ◌≤◌, ◌^◌, ℕ, Bool, List, Some, None}
use Rattle.std.specs.Option.{option_map}
use Rattle.osc_context.specs.Reserving.{next_limit}
use Rattle.osc_client.specs.Agrees.{TokensDiffer}
use Rattle.osc_client.specs.ClientAnswer.{ClientAnswer}
use Rattle.osc_client.specs.ClientDeciding as client_deciding
use Rattle.osc_client.specs.ClientHistory as asked
use Rattle.osc_client.specs.Views.{ClientShows}
use Rattle.osc_client.specs.declared.client_outcome.ClientOutcome.{ClientOutcome}
use Rattle.osc_client.specs.declared.decision.ClientDecision.{ClientDecision}
use Rattle.osc_laws.specs.ClientLaws.{AllClientAnswers}
use Rattle.osc_observe.specs.Received.{Received}
use Rattle.osc_life.specs.Deciding as deciding
use Rattle.osc_life.specs.Life.{next_own}
use Rattle.osc_life.specs.ServerHistory as served
use Rattle.osc_life.specs.Views.{Shows, values_of}
use Rattle.osc_life.specs.declared.decision.Decision.{Decision}
use Rattle.osc_life.specs.declared.decision.Decision.TheVariants as decisions
use Rattle.osc_life.specs.declared.outcome.Outcome.{Outcome}
use Rattle.osc_life.specs.declared.start.Fresh.{Fresh}
use Rattle.osc_endpoint.specs.ServerAnswer.{ServerAnswer}
use Rattle.osc_context_handle.specs.ContextBytes.{client_in}
use Rattle.osc_handle.specs.ServerBytes.{Serves}
use Rattle.osc_handle.specs.SingleServerBytes.{server_of_one}
use Rattle.osc_handle.specs.declared.single_server_handle.SingleServerHandle.{SingleServerHandle}
use Rattle.osc_handle.specs.declared.ticket_handle.TicketHandle.{TicketHandle}
use Rattle.osc_kept_ends.specs.KeptAsking as asking
use Rattle.osc_kept_ends.specs.KeptServing as serving
use Rattle.osc_kept_ends.specs.Numbering.{Own, Goes, Reserve, Steps, upcoming}
use Rattle.osc_kept_ends.specs.Peering.{ClientPasses, ServerPasses}
use Rattle.osc_handle.specs.KeptServerBytes.{IsKeptServer}
use Rattle.osc_handle.specs.Reserved.{AreReserved, WantsSave}
use Rattle.osc_peer_handle.specs.declared.peer_handle.PeerHandle.{PeerHandle}

-- the next Sender Sequence Number of both roles (RFC 8613, 7.2.1)
abbrev pub next_in : PeerHandle → ℕ
next_in p = p.server.server.slot.next

-- bytes that a call may have written: no number is too large (RFC 8613, 7.2.1)
pub record IsPeer (p : PeerHandle) : Type 0 where
  pub server : IsKeptServer p.server
  pub received : p.received ≤ 2 ^ 40

-- they are bytes of one peer, in one life, behind one record (own rule)
abbrev pub IsSamePeer : PeerHandle → PeerHandle → Type 0
IsSamePeer p q = (q.name ≡ p.name) × (q.life ≡ p.life) × (q.generation ≡ p.generation) × (q.received ≡ p.received)

-- the bytes have these numbers (RFC 8613, 7.2.1 and B.1.1)
pub record HasNumbers (p : PeerHandle) (o : Own) : Type 0 where
  pub whole : IsPeer p
  pub next_is : next_in p ≡ upcoming o
  pub numbers : AreReserved o p.server.reserved

-- a server's bytes, where the next Sender Sequence Number is this one (RFC 8613, 7.2.1)
abbrev pub served_at : ℕ → SingleServerHandle → SingleServerHandle
served_at next s = record s { slot = record s.slot { next = next } }

-- the bytes have these numbers, and their server has the one context and is as its history says, but for the numbers that the client used since (RFC 8613, 7.2.1)
pub record ServesBehind (p : PeerHandle) (o : Own) (h : served.History) : Type 0 where
  pub has : HasNumbers p o
  pub reached : ℕ
  pub serves : Serves (server_of_one (served_at reached p.server.server)) h
  pub one : served.added h ≡ 1
  pub reached_is : option_map next_own (served.life h 0) ≡ Some reached
  pub least : reached ≤ upcoming o

-- the bytes have these numbers, and with these requests their client is as its history says, but for the numbers that the server used since; each entry of the
-- history was the answer of a client with this room (RFC 8613, 7.2.1 and 8.1)
pub record AsksBehind (p : PeerHandle) (requests : List asked.Asked) (room : ℕ) (o : Own) (a : asked.History) : Type 0 where
  pub has : HasNumbers p o
  pub context_is : client_in p.server.server.slot.context ≡ asked.context a
  pub life_is : p.life_ms ≡ asked.life_ms a
  pub clock_is : p.clock ≡ asked.clock a
  pub apart_is : asked.apart a ≡ None
  pub least : asked.next a ≤ upcoming o
  pub table : requests ≡ asked.pending a
  pub differ : TokensDiffer requests
  pub answers : AllClientAnswers room a

-- the record by which the life began has to be saved, before anything is sealed or taken (own rule)
abbrev pub HasToClaim : PeerHandle → Type 0
HasToClaim p = p.generation < p.life

-- a record has to be saved first: that one, or since a Sender Sequence Number is asked for, or none was saved yet (RFC 8613, B.1.1 and B.1.2)
abbrev pub HasToSave : Bool → ℕ → PeerHandle → Type 0
HasToSave asked next p = HasToClaim p ⊎ WantsSave asked next p.server.reserved

-- the ticket names the peer's context and its life (own rule)
abbrev pub IsTicketOf : PeerHandle → TicketHandle → Type 0
IsTicketOf p t = (t.context ≡ p.name) × (t.life ≡ p.life)

-- the ticket as the server's role has it, whose one context has index 0 (own rule)
abbrev pub inside_of : PeerHandle → TicketHandle → TicketHandle
inside_of p t = record t { context = 0; life = p.server.server.slot.life }

-- the numbers after a record with this Sender Sequence Number was saved: as they were, or with more of them reserved (RFC 8613, B.1.1)
abbrev pub IsSavedAs : ℕ → Own → Own → Type 0
IsSavedAs sender o new = ((sender ≡ o.limit) × (new ≡ o)) ⊎ ((sender ≡ next_limit o.limit) × Goes Reserve o new)

-- the server passed over just the numbers that the client used since, so it seals next with the number in hand (RFC 8613, 7.2.1)
abbrev pub CatchesUp : served.History → served.History → Own → Type 0
CatchesUp h g o = ServerPasses h g × (option_map next_own (served.life g 0) ≡ Some (upcoming o))

-- the client did that with the numbers that the server used (RFC 8613, 7.2.1)
abbrev pub CatchesUpAsking : ℕ → asked.History → asked.History → Own → Type 0
CatchesUpAsking room a b o = ClientPasses room a b × (asked.next b ≡ upcoming o)

-- ---- what a call of the server's role does

-- the server passes over the numbers that the client used, and then the entry is its answer to the event; if it seals with a number of its own, it uses the one in
-- hand, which was drawn before; the bytes are as all this says, and the client's role is as it was, but for these numbers (RFC 8613, 7.2.1, 8.2, 8.3 and B.1.1)
pub record StepsAnswering (p : PeerHandle) (h : served.History) (event : served.Event) (entry : served.Entry) (old : Own) (q : PeerHandle) : Type 0 where
  pub g : served.History
  pub passes : ServerPasses h g
  pub reaches : option_map next_own (served.life g 0) ≡ Some (upcoming old)
  pub row : ServerAnswer g event entry
  pub new : Own
  pub numbers : Steps (serving.draws g event) (serving.uses g event entry) old new
  pub serves : ServesBehind q new (served.Then g event entry)
  pub asks : (requests : List asked.Asked) (room : ℕ) (a : asked.History) → AsksBehind p requests room old a → AsksBehind q requests room new a

-- the same for what was decided about a datagram (RFC 8613, 8.2)
pub record DecidesAnswering (p : PeerHandle) (h : served.History) (now : ℕ) (fresh : Fresh) (d : List ℕ) (decision : Decision) (left reply : List ℕ) (old : Own) (q : PeerHandle) : Type 0 where
  pub answer : served.Answer
  pub decides : deciding.Decides decision left answer
  pub step : StepsAnswering p h (served.Datagram now fresh.echo fresh.mid d) (served.Took answer reply) old q

-- and for what became of it (RFC 8613, 8.2)
pub record TakesAnswering (p : PeerHandle) (h : served.History) (now : ℕ) (fresh : Fresh) (d : List ℕ) (outcome : Outcome) (reply : List ℕ) (old : Own) (q : PeerHandle) : Type 0 where
  pub answer : served.Answer
  pub shows : Shows outcome answer
  pub step : StepsAnswering p h (served.Datagram now fresh.echo fresh.mid d) (served.Took answer reply) old q

-- the datagram is a request to be delivered, with a number that isn't below the one that was saved, and one less than this one (RFC 8613, 7.4)
pub record KeepsFirst (received : ℕ) (h : served.History) (now : ℕ) (fresh : Fresh) (d : List ℕ) (number : ℕ) : Type 0 where
  pub g : served.History
  pub passes : ServerPasses h g
  pub message : Received
  pub ticket : served.TicketValues
  pub reply : List ℕ
  pub row : ServerAnswer g (served.Datagram now fresh.echo fresh.mid d) (served.Took (served.Deliver message ticket) reply)
  pub number_is : number ≡ ticket.number + 1
  pub above : received < number

-- the decision is a delivery whose number isn't below the one that was saved, and one less than this one (RFC 8613, 7.4)
abbrev pub DeliversFrom : Decision → ℕ → ℕ → Type 0
DeliversFrom (decisions.Deliver x ticket) received number = (number ≡ (values_of ticket).number + 1) × (received < number)
DeliversFrom decision received number = ⊥

-- ---- what a call of the client's role does

-- the client passes over the numbers that the server used, and then the entry is its answer to the event; if it seals, it uses the number in hand, which was drawn
-- before; the bytes and the requests are as all this says, and the server's role is as it was, but for these numbers (RFC 8613, 7.2.1, 8.1, 8.4 and B.1.1)
pub record StepsAsking (p : PeerHandle) (room : ℕ) (a : asked.History) (event : asked.Event) (entry : asked.Entry) (old : Own) (q : PeerHandle) (requests : List asked.Asked) : Type 0 where
  pub b : asked.History
  pub passes : ClientPasses room a b
  pub reaches : asked.next b ≡ upcoming old
  pub row : ClientAnswer room b event entry
  pub new : Own
  pub numbers : Steps (asking.draws event) (asking.uses b event entry) old new
  pub asks : AsksBehind q requests room new (asked.Then b event entry)
  pub serves : (h : served.History) → ServesBehind p old h → ServesBehind q new h

-- the same for what was decided about a datagram (RFC 8613, 8.4)
pub record DecidesAsking (p : PeerHandle) (room : ℕ) (a : asked.History) (now : ℕ) (d : List ℕ) (decision : ClientDecision) (left : List ℕ) (old : Own) (q : PeerHandle) (requests : List asked.Asked) : Type 0 where
  pub answer : asked.Answer
  pub decides : client_deciding.Decides decision left answer
  pub step : StepsAsking p room a (asked.Datagram now d) (asked.Took answer) old q requests

-- and for what became of it (RFC 8613, 8.4)
pub record TakesAsking (p : PeerHandle) (room : ℕ) (a : asked.History) (now : ℕ) (d : List ℕ) (outcome : ClientOutcome) (old : Own) (q : PeerHandle) (requests : List asked.Asked) : Type 0 where
  pub answer : asked.Answer
  pub shows : ClientShows outcome answer
  pub step : StepsAsking p room a (asked.Datagram now d) (asked.Took answer) old q requests
