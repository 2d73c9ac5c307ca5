-- To be believed: runs of a peer, which asks and answers under one context (RFC 8613, 3.1, 7.2.1, 7.4 and B.1): the log of their events, the histories of both
-- roles, the numbers with their record, and the tickets. s and t are the states before and after, h and g histories of the server, k and m of the client, old
-- and new the numbers, ts and us the tickets, last and next the last challenge that asked for a fresh request, heard the Echo value that was heard last, n is how
-- many pending requests there is room for.
use Rattle.std.specs.Prelude.{◌≡◌, ◌⊎◌, ◌+◌, ◌<◌, ◌≤◌, ◌++◌, ◌∷◌, [], ℕ, List, Bool, true, Option, Some, None, Ok, Err, length, slice_set}
use Rattle.std.specs.Option.{ForSome, option_map}
use Rattle.osc_coap.specs.Datagram.{Parts, IsDatagram}
use Rattle.osc_coap.specs.Fault.{HasFault}
use Rattle.osc_coap.specs.Inner.{InnerParts}
use Rattle.osc_coap.specs.declared.format_error.FormatError.{FormatError}
use Rattle.osc_context.specs.Views.{number_of}
use Rattle.osc_context.specs.declared.record_keeper.RecordKeeper as keeper
use Rattle.osc_observe.specs.Received.{Received}
use Rattle.osc_protect.specs.Views.{message_of}
use Rattle.osc_client.specs.declared.client.Client.{Client}
use Rattle.osc_client.specs.declared.client_outcome.ClientOutcome.{ClientOutcome}
use Rattle.osc_client.specs.declared.client_outcome.RequestError.TheVariants as requests
use Rattle.osc_client.specs.ClientHistory as client
use Rattle.osc_client.specs.Views.{ClientShows}
use Rattle.osc_endpoint.specs.declared.client_event.ClientEntry.{ClientEntry}
use Rattle.osc_endpoint.specs.declared.client_event.ClientEntry.TheVariants as asked
use Rattle.osc_endpoint.specs.declared.server.ServerOf.{ServerOf}
use Rattle.osc_endpoint.specs.declared.server_event.ServerEntry.{ServerEntry}
use Rattle.osc_endpoint.specs.declared.server_event.ServerEntry.TheVariants as served
use Rattle.osc_endpoint.specs.ClientRun as client_run
use Rattle.osc_endpoint.specs.ServerRun as server_run
use Rattle.osc_life.specs.declared.seen.Seen.TheVariants as seen
use Rattle.osc_life.specs.declared.server_error.ReplyError.TheVariants as replies
use Rattle.osc_life.specs.Life.{next_own}
use Rattle.osc_life.specs.LifeAnswer.{asks_own}
use Rattle.osc_life.specs.Logged as logged
use Rattle.osc_life.specs.ServerHistory as server
use Rattle.osc_kept_ends.specs.declared.peer_source.PeerSource.{PeerSource}
use Rattle.osc_kept_ends.specs.EchoNumber.{echo_of}
use Rattle.osc_kept_ends.specs.KeptAsking as asking
use Rattle.osc_kept_ends.specs.KeptServing as serving
use Rattle.osc_kept_ends.specs.Numbering.{Own, Steps, response_number, upcoming}
use Rattle.osc_kept_ends.specs.Peering.{ClientIsBehind, ClientPasses, IsKeptOn, MayDraw, ServerIsBehind, ServerPasses}
use Rattle.osc_kept_ends.specs.PeerOwning.{own_in}
use Rattle.osc_fresh.specs.Echoing.{echo_in, heard_after}
use Rattle.osc_fresh.specs.Following.{Follows}
use Rattle.osc_fresh.specs.Wishing.{Asked, IsFresh, unobeyed_message}
use Rattle.osc_fresh.specs.WithEcho.{LacksEchoRoom, echoing}
use Rattle.osc_peer_runs.specs.declared.peer_event.PeerArrival.{PeerArrival}
use Rattle.osc_peer_runs.specs.declared.peer_event.PeerEvent.{PeerEvent}
use Rattle.osc_peer_runs.specs.declared.peer_event.PeerEvent.TheVariants as events
use Rattle.osc_peer_runs.specs.declared.peer_event.PeerEntry.{PeerEntry}
use Rattle.osc_peer_runs.specs.declared.peer_event.PeerEntry.TheVariants as entries

-- what a run remembers of Echo values: the last challenge of its server that asked for a fresh request, and the value that its client heard last, if there were
-- such (RFC 9175, 2.3)
pub record Echoes : Type 0 where
  pub last : Option Asked
  pub heard : Option (List ℕ)

-- nothing was asked for or heard yet (RFC 9175, 2.3)
abbrev pub no_echoes : Echoes
no_echoes = record { last = None; heard = None }

-- a peer in a run: the histories of both roles, the numbers, the tickets of the run, with one place for each event, and what is remembered of Echo values (own rule)
pub record PeerState {R : Type 0} (r : keeper.Ghosts R) : Type 0 where
  pub served : server.History
  pub asked : client.History
  pub source : PeerSource R r
  pub tickets : List (Option server.TicketValues)
  pub echoes : Echoes

-- a peer's state, from its parts, if no Echo value is remembered (own rule)
abbrev pub peer_state : {R : Type 0} {r : keeper.Ghosts R} → server.History → client.History → PeerSource R r → List (Option server.TicketValues) → PeerState r
peer_state h k source ts = record { served = h; asked = k; source = source; tickets = ts; echoes = no_echoes }

-- the same state, where this is remembered of Echo values (own rule)
abbrev pub with_echoes : {R : Type 0} {r : keeper.Ghosts R} → Echoes → PeerState r → PeerState r
with_echoes echoes s = record s { echoes = echoes }

-- both roles are as their histories say, and have only numbers below this one (RFC 8613, 7.2.1)
pub record AreBehind {n : ℕ} (s : ServerOf 1) (c : Client n) (next : ℕ) (h : server.History) (k : client.History) : Type 0 where
  pub server : ServerIsBehind s next h
  pub client : ClientIsBehind c next k

-- the number with which the peer seals next isn't below the next one of either role (RFC 8613, 7.2.1)
pub record SealsAbove {R : Type 0} {r : keeper.Ghosts R} (s : PeerState r) : Type 0 where
  pub reached : ℕ
  pub reached_is : option_map next_own (server.life s.served 0) ≡ Some reached
  pub served_least : reached ≤ upcoming (own_in s.source)
  pub asked_least : client.next s.asked ≤ upcoming (own_in s.source)

-- the record didn't fail, and it holds all that it held of what was received (RFC 8613, 7.4)
abbrev pub Worked : {R : Type 0} {r : keeper.Ghosts R} → PeerSource R r → PeerSource R r → Type 0
Worked {r = r} old new = (r.failures new.keeper ≡ r.failures old.keeper) × (r.received_floor old.keeper ≤ r.received_floor new.keeper)

-- the record failed once, and it holds all that it held of what was received (RFC 8613, 7.4)
abbrev pub Failed : {R : Type 0} {r : keeper.Ghosts R} → PeerSource R r → PeerSource R r → Type 0
Failed {r = r} old new = (r.failures new.keeper ≡ r.failures old.keeper + 1) × (r.received_floor old.keeper ≤ r.received_floor new.keeper)

-- ---- what the server does

-- it passes over numbers and answers the event; a number is drawn if the event asks for one, and the number that the server sealed with is used
-- (RFC 8613, 7.2.1, 8.3 and B.1.1)
abbrev pub Serves : {R : Type 0} {r : keeper.Ghosts R} → server.History → server.Event → server.Entry → PeerSource R r → server.History → PeerSource R r → Type 0
Serves h event entry old g new = (before : server.History) × ServerPasses h before × server_run.GoesOn before event entry g
    × Steps (serving.draws before event) (serving.uses before event entry) (own_in old) (own_in new) × Worked old new

-- the same for a datagram; the record may have been written for a delivery then (RFC 8613, 7.2.1, 7.4, 8.2 and B.1)
abbrev pub Takes : {R : Type 0} {r : keeper.Ghosts R} → server.History → server.Event → server.Entry → PeerSource R r → server.History → PeerSource R r → Type 0
Takes h event entry old g new = (before : server.History) × ServerPasses h before × server_run.GoesOn before event entry g × (mid : Own)
    × Steps (serving.draws before event) (serving.uses before event entry) (own_in old) mid × IsKeptOn mid (own_in new) × Worked old new

-- a datagram's entry, and the ticket that it gives; the number of a delivery is below what the record holds; if the record failed, the server may have passed over
-- numbers, a number that was drawn is in hand still, and only the clock moved (RFC 8613, 7.4, 8.2 and B.1; RFC 9175, A)
abbrev pub ArrivalStep : {R : Type 0} {r : keeper.Ghosts R} → server.History → PeerSource R r → PeerArrival → ServerEntry → server.History → PeerSource R r → Option server.TicketValues → Type 0
ArrivalStep h old a (served.Took seen.KeeperFailed reply) g new o = (before : server.History) × ((before ≡ h) ⊎ ServerPasses h before)
    × (g ≡ server.Then before (server.Advance a.now) server.Advanced) × (mid : Own) × MayDraw (own_in old) mid × IsKeptOn mid (own_in new) × Failed old new × (reply.now ≡ []) × (o ≡ None)
ArrivalStep {r = r} h old a (served.Took x reply) g new o = (answer : server.Answer) × logged.Logs x answer
    × Takes h (server.Datagram a.now (echo_of (upcoming (own_in old))) a.mid a.bytes.items) (server.Took answer reply.now) old g new
    × (o ≡ logged.ticket_of answer) × ForSome o (λ ticket. ticket.number < r.received_floor new.keeper)
ArrivalStep h old a entry g new o = ⊥

-- if the entry delivers a message, this holds of it (own rule)
abbrev pub IfDelivered : ServerEntry → (InnerParts → Type 0) → Type 0
IfDelivered (served.Took (seen.Deliver opened context number) reply) holds = holds (message_of opened)
IfDelivered entry holds = Unit {0}

-- the server takes a new request that isn't known to be so old at most, in milliseconds; its number is below what the record holds (RFC 8613, 7.3, 7.4 and 8.2)
abbrev pub TakesStale : {R : Type 0} {r : keeper.Ghosts R} → server.History → PeerSource R r → Option Asked → ℕ → PeerArrival → server.History → PeerSource R r → server.TicketValues → Type 0
TakesStale {r = r} h old last ms a g new t = (received : Received)
    × Takes h (server.Datagram a.now (echo_of (upcoming (own_in old))) a.mid a.bytes.items) (server.Took (server.Deliver received t) []) old g new
    × (IsFresh ms last received.message a.now → ⊥) × (t.number < r.received_floor new.keeper)

-- the challenge to a request: it has the Echo value of the number with which it is sealed, and says that the request wasn't obeyed (RFC 9175, 2.3 and A, method 3)
abbrev pub asking_anew : {R : Type 0} {r : keeper.Ghosts R} → server.TicketValues → ℕ → PeerSource R r → server.Event
asking_anew t mid source = server.Reply t (asks_own t true) mid (unobeyed_message (echo_of (upcoming (own_in source)))) 64

-- a datagram of which no request is delivered that isn't known to be so old at most: one that is new is challenged in place of that, and the challenge, which has its
-- number, is remembered with its moment; if the record failed, no number changed, and there is no answer (RFC 8613, 7.3, 7.4 and 8.2; RFC 9175, 2.3)
abbrev pub FreshStep : {R : Type 0} {r : keeper.Ghosts R} → server.History → PeerSource R r → Option Asked → ℕ → PeerArrival → PeerEntry → server.History → PeerSource R r → Option Asked → Option server.TicketValues → Type 0
FreshStep h old last ms a (entries.Served entry) g new next o = ArrivalStep h old a entry g new o × IfDelivered entry (λ m. IsFresh ms last m a.now) × (next ≡ last)
FreshStep {R = R} {r = r} h old last ms a (entries.Challenged (Ok sealed)) g new next o = (between : server.History) × (mid : PeerSource R r) × (t : server.TicketValues)
    × TakesStale h old last ms a between mid t × Serves between (asking_anew t a.mid mid) (server.Replied sealed.datagram.now) mid g new
    × (next ≡ Some (record { number = upcoming (own_in mid); moment = a.now })) × (o ≡ None) × (option_map number_of sealed.number ≡ response_number true (own_in mid))
FreshStep {R = R} {r = r} h old last ms a (entries.Challenged (Err replies.KeeperFailed)) g new next o = (between : server.History) × (mid : PeerSource R r) × (t : server.TicketValues)
    × TakesStale h old last ms a between mid t × (g ≡ between) × (own_in new ≡ own_in mid) × Failed mid new × (next ≡ last) × (o ≡ None)
FreshStep {R = R} {r = r} h old last ms a (entries.Challenged (Err e)) g new next o = (between : server.History) × (mid : PeerSource R r) × (t : server.TicketValues)
    × TakesStale h old last ms a between mid t × Serves between (asking_anew t a.mid mid) (server.NotReplied e) mid g new × (next ≡ last) × (o ≡ None)
FreshStep h old last ms a entry g new next o = ⊥

-- a reply by the ticket at a place, with its number, and the tickets that are left; if the record failed, no number changed (RFC 8613, 4.1.3.5 and 8.3)
abbrev pub ReplyStep : {R : Type 0} {r : keeper.Ghosts R} → server.History → PeerSource R r → List (Option server.TicketValues) → ℕ → Bool → ℕ → List ℕ → ℕ → ServerEntry → server.History → PeerSource R r → List (Option server.TicketValues) → Type 0
ReplyStep h old ts of own mid plain room (served.Replied (Ok sealed)) g new us = (t : server.TicketValues) × (server_run.ticket_at ts of ≡ Some t)
    × (p : Parts) × IsDatagram p plain × Serves h (server.Reply t (asks_own t own) mid p room) (server.Replied sealed.datagram.now) old g new × (us ≡ slice_set ts of None)
    × (option_map number_of sealed.number ≡ response_number (asks_own t own) (own_in old))
ReplyStep h old ts of own mid plain room (served.Replied (Err replies.KeeperFailed)) g new us = (t : server.TicketValues) × (server_run.ticket_at ts of ≡ Some t)
    × (p : Parts) × IsDatagram p plain × (g ≡ h) × (own_in new ≡ own_in old) × Failed old new × (us ≡ ts)
ReplyStep h old ts of own mid plain room (served.Replied (Err e)) g new us = (t : server.TicketValues) × (server_run.ticket_at ts of ≡ Some t)
    × (p : Parts) × IsDatagram p plain × Serves h (server.Reply t (asks_own t own) mid p room) (server.NotReplied e) old g new × (us ≡ ts)
ReplyStep h old ts of own mid plain room entry g new us = server_run.ReplyStep h ts of own mid plain room entry g us × (new ≡ old)

-- a challenge by the ticket at a place, in place of a reply, and the tickets that are left: it has the Echo value of the number with which it is sealed, and says that
-- the request wasn't obeyed; if the record failed, no number changed (RFC 8613, 8.3; RFC 9175, 2.3 and A, method 3)
abbrev pub ChallengeStep : {R : Type 0} {r : keeper.Ghosts R} → server.History → PeerSource R r → List (Option server.TicketValues) → ℕ → ℕ → ℕ → ServerEntry → server.History → PeerSource R r → List (Option server.TicketValues) → Type 0
ChallengeStep h old ts of mid room served.NoTicket g new us = (server_run.ticket_at ts of ≡ None) × (g ≡ h) × (us ≡ ts) × (new ≡ old)
ChallengeStep h old ts of mid room (served.Replied (Ok sealed)) g new us = (t : server.TicketValues) × (server_run.ticket_at ts of ≡ Some t)
    × Serves h (server.Reply t (asks_own t true) mid (unobeyed_message (echo_of (upcoming (own_in old)))) room) (server.Replied sealed.datagram.now) old g new × (us ≡ slice_set ts of None)
    × (option_map number_of sealed.number ≡ response_number true (own_in old))
ChallengeStep h old ts of mid room (served.Replied (Err replies.KeeperFailed)) g new us = (t : server.TicketValues) × (server_run.ticket_at ts of ≡ Some t)
    × (g ≡ h) × (own_in new ≡ own_in old) × Failed old new × (us ≡ ts)
ChallengeStep h old ts of mid room (served.Replied (Err e)) g new us = (t : server.TicketValues) × (server_run.ticket_at ts of ≡ Some t)
    × Serves h (server.Reply t (asks_own t true) mid (unobeyed_message (echo_of (upcoming (own_in old)))) room) (server.NotReplied e) old g new × (us ≡ ts)
ChallengeStep h old ts of mid room entry g new us = ⊥

-- a notification by the ticket at a place, which stays, with its number; if the record failed, no number changed (RFC 8613, 8.3.1)
abbrev pub NotifyStep : {R : Type 0} {r : keeper.Ghosts R} → server.History → PeerSource R r → List (Option server.TicketValues) → ℕ → List ℕ → ℕ → ServerEntry → server.History → PeerSource R r → Type 0
NotifyStep h old ts of plain room (served.Replied (Ok sealed)) g new = (t : server.TicketValues) × (server_run.ticket_at ts of ≡ Some t)
    × (p : Parts) × IsDatagram p plain × Serves h (server.Notify t p room) (server.Replied sealed.datagram.now) old g new
    × (option_map number_of sealed.number ≡ response_number true (own_in old))
NotifyStep h old ts of plain room (served.Replied (Err replies.KeeperFailed)) g new = (t : server.TicketValues) × (server_run.ticket_at ts of ≡ Some t)
    × (p : Parts) × IsDatagram p plain × (g ≡ h) × (own_in new ≡ own_in old) × Failed old new
NotifyStep h old ts of plain room (served.Replied (Err e)) g new = (t : server.TicketValues) × (server_run.ticket_at ts of ≡ Some t)
    × (p : Parts) × IsDatagram p plain × Serves h (server.Notify t p room) (server.NotReplied e) old g new
NotifyStep h old ts of plain room entry g new = server_run.NotifyStep h ts of plain room entry g × (new ≡ old)

-- ---- what the client does

-- it passes over numbers and answers a request; a number is drawn, and used if the request was sealed (RFC 8613, 7.2.1, 8.1 and B.1.1)
abbrev pub Asks : {R : Type 0} {r : keeper.Ghosts R} → ℕ → client.History → client.Event → client.Entry → PeerSource R r → client.History → PeerSource R r → Type 0
Asks n k event entry old m new = (before : client.History) × ClientPasses n k before × client_run.GoesOn n before event entry m
    × Steps (asking.draws event) (asking.uses before event entry) (own_in old) (own_in new) × Worked old new

-- what came of sealing a message as a request, with the number that it was sealed with; if the record failed, only the client's clock moved (RFC 8613, 8.1)
abbrev pub SealStep : {R : Type 0} {r : keeper.Ghosts R} → ℕ → PeerState r → ℕ → Parts → ℕ → ClientEntry → PeerState r → Type 0
SealStep n s now p room (asked.Sent number text) t = (number_of number ≡ upcoming (own_in s.source))
    × Asks n s.asked (client.Request now p room) (client.Sent text.now) s.source t.asked t.source × (t.served ≡ s.served)
SealStep n s now p room (asked.NotSent requests.KeeperFailed) t = (t.asked ≡ client.Then s.asked (client.Advance now) client.Advanced)
    × (own_in t.source ≡ own_in s.source) × Failed s.source t.source × (t.served ≡ s.served)
SealStep n s now p room (asked.NotSent e) t = Asks n s.asked (client.Request now p room) (client.NotSent e) s.source t.asked t.source × (t.served ≡ s.served)
SealStep n s now p room entry t = ⊥

-- the text isn't a message, for this reason, and only both clocks moved (RFC 7252, 3)
abbrev pub BadPlainStep : {R : Type 0} {r : keeper.Ghosts R} → PeerState r → ℕ → List ℕ → FormatError → PeerState r → Type 0
BadPlainStep s now plain e t = HasFault plain e.fault e.place × (t.served ≡ server.Then s.served (server.Advance now) server.Advanced)
    × (t.asked ≡ client.Then s.asked (client.Advance now) client.Advanced) × (t.source ≡ s.source)

-- a request's entry (RFC 8613, 8.1)
abbrev pub RequestStep : {R : Type 0} {r : keeper.Ghosts R} → ℕ → PeerState r → ℕ → List ℕ → ℕ → ClientEntry → PeerState r → Type 0
RequestStep n s now plain room (asked.BadPlain e) t = BadPlainStep s now plain e t
RequestStep n s now plain room entry t = (p : Parts) × IsDatagram p plain × SealStep n s now p room entry t

-- nothing happened at the peer (own rule)
abbrev pub StaysAt : {R : Type 0} {r : keeper.Ghosts R} → PeerState r → PeerState r → Type 0
StaysAt s t = (t.served ≡ s.served) × (t.asked ≡ s.asked) × (t.source ≡ s.source)

-- what came of sealing a message with the Echo value that was heard last; of a message with this first Echo value, if it has one, which is refused
-- (RFC 9175, 2.3)
abbrev pub EchoSealStep : {R : Type 0} {r : keeper.Ghosts R} → Option (List ℕ) → ℕ → Option (List ℕ) → PeerState r → ℕ → Parts → ℕ → ℕ → ClientEntry → PeerState r → Type 0
EchoSealStep (Some value) n heard s now p room out entry t = (entry ≡ asked.NotSent (requests.Unsupported 252)) × StaysAt s t
EchoSealStep None n heard s now p room out entry t = (LacksEchoRoom heard p room → ⊥) × SealStep n s now (echoing heard p) out entry t

-- the entry of a request with the Echo value that was heard last, or that there is no room for the message with that value (RFC 8613, 8.1; RFC 9175, 2.3)
abbrev pub EchoStep : {R : Type 0} {r : keeper.Ghosts R} → ℕ → Option (List ℕ) → PeerState r → ℕ → List ℕ → ℕ → ℕ → PeerEntry → PeerState r → Type 0
EchoStep n heard s now plain room out (entries.Asked (asked.BadPlain e)) t = BadPlainStep s now plain e t
EchoStep n heard s now plain room out (entries.Asked entry) t = (p : Parts) × IsDatagram p plain × EchoSealStep (echo_in p) n heard s now p room out entry t
EchoStep n heard s now plain room out entries.NoRoomForEcho t = (p : Parts) × IsDatagram p plain × LacksEchoRoom heard p room × StaysAt s t
EchoStep n heard s now plain room out entry t = ⊥

-- a datagram that may be a response came to this, and the Echo value of what is delivered is remembered (RFC 8613, 8.4; RFC 9175, 2.3)
abbrev pub HearStep : {R : Type 0} {r : keeper.Ghosts R} → ℕ → PeerState r → ℕ → List ℕ → ClientOutcome → PeerState r → Type 0
HearStep n s now bytes outcome t = (answer : client.Answer) × ClientShows outcome answer × client_run.GoesOn n s.asked (client.Datagram now bytes) (client.Took answer) t.asked
    × (t.served ≡ s.served) × (t.source ≡ s.source) × (t.echoes.heard ≡ heard_after outcome s.echoes.heard)

-- ---- what the peer does

-- one event and its entry, what changed, and the place that the event has among the tickets (own rule)
abbrev pub EventStep : {R : Type 0} {r : keeper.Ghosts R} → ℕ → PeerState r → PeerEvent → PeerEntry → PeerState r → Type 0
EventStep n s (events.Datagram a) (entries.Served entry) t = (o : Option server.TicketValues)
    × ArrivalStep s.served s.source a entry t.served t.source o × (t.asked ≡ s.asked) × (t.tickets ≡ s.tickets ++ o ∷ [])
EventStep n s (events.Fresh ms a) entry t = (o : Option server.TicketValues)
    × FreshStep s.served s.source s.echoes.last ms a entry t.served t.source t.echoes.last o × (t.asked ≡ s.asked) × (t.tickets ≡ s.tickets ++ o ∷ [])
EventStep n s (events.Reply a) (entries.Served entry) t = (us : List (Option server.TicketValues))
    × ReplyStep s.served s.source s.tickets a.of a.own a.mid a.plain.items (length a.out.items) entry t.served t.source us
    × (t.asked ≡ s.asked) × (t.tickets ≡ us ++ None ∷ [])
EventStep n s (events.Challenge a) (entries.Served entry) t = (us : List (Option server.TicketValues))
    × ChallengeStep s.served s.source s.tickets a.of a.mid (length a.out.items) entry t.served t.source us
    × (t.asked ≡ s.asked) × (t.tickets ≡ us ++ None ∷ [])
EventStep n s (events.Notify a) (entries.Served entry) t = NotifyStep s.served s.source s.tickets a.of a.plain.items (length a.out.items) entry t.served t.source
    × (t.asked ≡ s.asked) × (t.tickets ≡ s.tickets ++ None ∷ [])
EventStep n s (events.Drop of) (entries.Served entry) t = (us : List (Option server.TicketValues))
    × server_run.DropStep s.served s.tickets of entry t.served us × (t.source ≡ s.source) × (t.asked ≡ s.asked) × (t.tickets ≡ us ++ None ∷ [])
EventStep n s (events.Request now plain out) (entries.Asked entry) t =
    RequestStep n s now plain.items (length out.items) entry t × (t.tickets ≡ s.tickets ++ None ∷ [])
EventStep n s (events.Echo now plain room out) entry t =
    EchoStep n s.echoes.heard s now plain.items (length room.items) (length out.items) entry t × (t.tickets ≡ s.tickets ++ None ∷ [])
EventStep n s (events.Response now bytes) (entries.Asked (asked.Took outcome)) t = HearStep n s now bytes.items outcome t × (t.tickets ≡ s.tickets ++ None ∷ [])
EventStep n s (events.Follow now bytes) (entries.Followed x) t = (outcome : ClientOutcome) × Follows x outcome × HearStep n s now bytes.items outcome t
    × (t.tickets ≡ s.tickets ++ None ∷ [])
EventStep n s (events.Forget token) (entries.Asked (asked.Forgot was_pending)) t =
    client_run.GoesOn n s.asked (client.Forget token.items) (client.Forgot was_pending) t.asked
    × (t.served ≡ s.served) × (t.source ≡ s.source) × (t.tickets ≡ s.tickets ++ None ∷ [])
EventStep n s (events.Advance now) entries.Advanced t = (t.served ≡ server.Then s.served (server.Advance now) server.Advanced)
    × (t.asked ≡ client.Then s.asked (client.Advance now) client.Advanced) × (t.source ≡ s.source) × (t.tickets ≡ s.tickets ++ None ∷ [])
EventStep n s event entry t = ⊥

-- what is remembered of Echo values stays: of the server, if the event asks for no fresh request, and of the client, if it brings no response (RFC 9175, 2.3)
abbrev pub KeepsEchoes : {R : Type 0} {r : keeper.Ghosts R} → PeerState r → PeerEvent → PeerState r → Type 0
KeepsEchoes s (events.Fresh ms a) t = t.echoes.heard ≡ s.echoes.heard
KeepsEchoes s (events.Response now bytes) t = t.echoes.last ≡ s.echoes.last
KeepsEchoes s (events.Follow now bytes) t = t.echoes.last ≡ s.echoes.last
KeepsEchoes s event t = t.echoes ≡ s.echoes

-- such a step, after which the peer seals above all that either role has (RFC 8613, 7.2.1)
abbrev pub RunStep : {R : Type 0} {r : keeper.Ghosts R} → ℕ → PeerState r → PeerEvent → PeerEntry → PeerState r → Type 0
RunStep n s event entry t = EventStep n s event entry t × KeepsEchoes s event t × SealsAbove t

-- the log has one entry for each event, and each is a step from the state that the one before left (own rule)
abbrev pub PeerRun : {R : Type 0} {r : keeper.Ghosts R} → ℕ → PeerState r → List PeerEvent → List PeerEntry → PeerState r → Type 0
PeerRun n s [] [] t = t ≡ s
PeerRun n s [] (x ∷ xs) t = ⊥
PeerRun n s (e ∷ es) [] t = ⊥
PeerRun {r = r} n s (e ∷ es) (x ∷ xs) t = (mid : PeerState r) × RunStep n s e x mid × PeerRun n mid es xs t

-- if the entry is a delivery, the number of its request is below this one (RFC 8613, 7.4)
abbrev pub DeliversBelow : ℕ → PeerEntry → Type 0
DeliversBelow floor (entries.Served (served.Took (seen.Deliver opened context number) reply)) = number_of number < floor
DeliversBelow floor entry = Unit {0}
