-- To be believed: runs of ends whose numbers are kept (RFC 8613, 7.2.1 and B.1): the log of their events, the history that they add to, the
-- numbers with their keeper, and a server's tickets. s and t are the states before and after, h and g the histories, old and new the numbers, ts and
-- us the tickets.
use Rattle.std.specs.Prelude.{◌≡◌, ◌+◌, ◌++◌, ◌∷◌, [], ℕ, List, Bool, true, Option, Some, None, Ok, Err, length, slice_set}
use Rattle.std.specs.Option.{option_map}
use Rattle.osc_coap.specs.Datagram.{Parts, IsDatagram}
use Rattle.osc_context.specs.Views.{number_of}
use Rattle.osc_context.specs.declared.keeper.Keeper as keeper
use Rattle.osc_endpoint.specs.declared.client_event.ClientEntry.{ClientEntry}
use Rattle.osc_endpoint.specs.declared.client_event.ClientEntry.TheVariants as asked
use Rattle.osc_endpoint.specs.declared.client_event.ClientEvent.{ClientEvent}
use Rattle.osc_endpoint.specs.declared.client_event.ClientEvent.TheVariants as asks
use Rattle.osc_client.specs.declared.client_outcome.RequestError.TheVariants as requests
use Rattle.osc_life.specs.declared.server_error.ReplyError.TheVariants as replies
use Rattle.osc_life.specs.declared.server_error.RestartError.TheVariants as restarts
use Rattle.osc_endpoint.specs.declared.server_event.Arrival.{Arrival}
use Rattle.osc_life.specs.declared.seen.Seen.TheVariants as seen
use Rattle.osc_endpoint.specs.declared.server_event.ServerEntry.{ServerEntry}
use Rattle.osc_endpoint.specs.declared.server_event.ServerEntry.TheVariants as served
use Rattle.osc_client.specs.ClientHistory as client
use Rattle.osc_endpoint.specs.ClientRun as client_run
use Rattle.osc_endpoint.specs.ServerAnswer.{ServerAnswer}
use Rattle.osc_life.specs.LifeAnswer.{asks_own}
use Rattle.osc_life.specs.ServerHistory as server
use Rattle.osc_endpoint.specs.ServerRun as server_run
use Rattle.osc_life.specs.Logged as logged
use Rattle.osc_kept_ends.specs.declared.kept_error.KeptError.TheVariants.{LivesExhausted}
use Rattle.osc_kept_runs.specs.declared.kept_event.KeptClientEvent.{KeptClientEvent}
use Rattle.osc_kept_runs.specs.declared.kept_event.KeptClientEvent.TheVariants as client_events
use Rattle.osc_kept_runs.specs.declared.kept_event.KeptClientEntry.{KeptClientEntry}
use Rattle.osc_kept_runs.specs.declared.kept_event.KeptClientEntry.TheVariants as client_entries
use Rattle.osc_kept_runs.specs.declared.kept_event.KeptServerEvent.{KeptServerEvent}
use Rattle.osc_kept_runs.specs.declared.kept_event.KeptServerEvent.TheVariants as server_events
use Rattle.osc_kept_runs.specs.declared.kept_event.KeptServerEntry.{KeptServerEntry}
use Rattle.osc_kept_runs.specs.declared.kept_event.KeptServerEntry.TheVariants as server_entries
use Rattle.osc_kept_ends.specs.declared.source.Source.{Source}
use Rattle.osc_kept_ends.specs.KeptAsking as asking
use Rattle.osc_kept_ends.specs.KeptServing as serving
use Rattle.osc_kept_ends.specs.Numbering.{Goes, Load, Steps, response_number}
use Rattle.osc_kept_ends.specs.Owning.{own_in}
use Rattle.osc_kept_ends.specs.Refusals.{Loaded, RefusesAt}

-- the log has one entry for each event, and each is a step from the state that the one before left (own rule)
abbrev pub RunOf : {S E X : Type 0} → (S → E → X → S → Type 0) → S → List E → List X → S → Type 0
RunOf Step s [] [] t = t ≡ s
RunOf Step s [] (x ∷ xs) t = ⊥
RunOf Step s (e ∷ es) [] t = ⊥
RunOf {S = S} Step s (e ∷ es) (x ∷ xs) t = (mid : S) × Step s e x mid × RunOf Step mid es xs t

-- the keeper failed once, and no number changed (own rule)
abbrev pub Failed : {K : Type 0} {k : keeper.Ghosts K} → Source K k → Source K k → Type 0
Failed {k = k} old new = (k.failures new.keeper ≡ k.failures old.keeper + 1) × (own_in new ≡ own_in old)

-- the keeper didn't fail (own rule)
abbrev pub Worked : {K : Type 0} {k : keeper.Ghosts K} → Source K k → Source K k → Type 0
Worked {k = k} old new = k.failures new.keeper ≡ k.failures old.keeper

-- ---- servers

-- a kept server in a run: its history, its numbers, and the tickets of the run, with one place for each event (own rule)
pub record ServerState {K : Type 0} (k : keeper.Ghosts K) : Type 0 where
  pub history : server.History
  pub source : Source K k
  pub tickets : List (Option server.TicketValues)

-- what became of the numbers in an event that a server answered: a draw if the event asks for one, then the use of the number that the server sealed with
-- (RFC 8613, 7.2.1 and B.1.1)
abbrev pub ServerNumbers : {K : Type 0} {k : keeper.Ghosts K} → server.History → server.Event → server.Entry → Source K k → Source K k → Type 0
ServerNumbers h event entry old new = Steps (serving.draws h event) (serving.uses h event entry) (own_in old) (own_in new) × Worked old new

-- a datagram's entry, and the ticket that it gives; if the keeper failed, only the clock moved (own rule)
abbrev pub ArrivalStep : {K : Type 0} {k : keeper.Ghosts K} → server.History → Source K k → Arrival → ServerEntry → server.History → Source K k → Option server.TicketValues → Type 0
ArrivalStep h old a (served.Took seen.KeeperFailed reply) g new o = (g ≡ server.Then h (server.Advance a.now) server.Advanced) × Failed old new × (reply.now ≡ []) × (o ≡ None)
ArrivalStep h old a (served.Took x reply) g new o = (answer : server.Answer) × logged.Logs x answer
    × server_run.GoesOn h (server.Datagram a.now a.fresh.echo a.fresh.mid a.bytes.items) (server.Took answer reply.now) g
    × ServerNumbers h (server.Datagram a.now a.fresh.echo a.fresh.mid a.bytes.items) (server.Took answer reply.now) old new × (o ≡ logged.ticket_of answer)
ArrivalStep h old a entry g new o = ⊥

-- a reply by the ticket at a place, with its number, and the tickets that are left; if the keeper failed, nothing else changed (RFC 8613, 4.1.3.5 and 8.3)
abbrev pub ReplyStep : {K : Type 0} {k : keeper.Ghosts K} → server.History → Source K k → List (Option server.TicketValues) → ℕ → Bool → ℕ → List ℕ → ℕ → ServerEntry → server.History → Source K k → List (Option server.TicketValues) → Type 0
ReplyStep h old ts of own mid plain room (served.Replied (Ok sealed)) g new us = (t : server.TicketValues) × (server_run.ticket_at ts of ≡ Some t)
    × (p : Parts) × IsDatagram p plain × server_run.GoesOn h (server.Reply t (asks_own t own) mid p room) (server.Replied sealed.datagram.now) g
    × ServerNumbers h (server.Reply t (asks_own t own) mid p room) (server.Replied sealed.datagram.now) old new × (us ≡ slice_set ts of None)
    × (option_map number_of sealed.number ≡ response_number (asks_own t own) (own_in old))
ReplyStep h old ts of own mid plain room (served.Replied (Err replies.KeeperFailed)) g new us =
    (t : server.TicketValues) × (server_run.ticket_at ts of ≡ Some t) × (p : Parts) × IsDatagram p plain × (g ≡ h) × Failed old new × (us ≡ ts)
ReplyStep h old ts of own mid plain room (served.Replied (Err e)) g new us = (t : server.TicketValues) × (server_run.ticket_at ts of ≡ Some t)
    × (p : Parts) × IsDatagram p plain × server_run.GoesOn h (server.Reply t (asks_own t own) mid p room) (server.NotReplied e) g
    × ServerNumbers h (server.Reply t (asks_own t own) mid p room) (server.NotReplied e) old new × (us ≡ ts)
ReplyStep h old ts of own mid plain room entry g new us = server_run.ReplyStep h ts of own mid plain room entry g us × (new ≡ old)

-- a notification by the ticket at a place, which stays, with its number; if the keeper failed, nothing else changed (RFC 8613, 8.3.1)
abbrev pub NotifyStep : {K : Type 0} {k : keeper.Ghosts K} → server.History → Source K k → List (Option server.TicketValues) → ℕ → List ℕ → ℕ → ServerEntry → server.History → Source K k → Type 0
NotifyStep h old ts of plain room (served.Replied (Ok sealed)) g new = (t : server.TicketValues) × (server_run.ticket_at ts of ≡ Some t)
    × (p : Parts) × IsDatagram p plain × server_run.GoesOn h (server.Notify t p room) (server.Replied sealed.datagram.now) g
    × ServerNumbers h (server.Notify t p room) (server.Replied sealed.datagram.now) old new
    × (option_map number_of sealed.number ≡ response_number true (own_in old))
NotifyStep h old ts of plain room (served.Replied (Err replies.KeeperFailed)) g new =
    (t : server.TicketValues) × (server_run.ticket_at ts of ≡ Some t) × (p : Parts) × IsDatagram p plain × (g ≡ h) × Failed old new
NotifyStep h old ts of plain room (served.Replied (Err e)) g new = (t : server.TicketValues) × (server_run.ticket_at ts of ≡ Some t)
    × (p : Parts) × IsDatagram p plain × server_run.GoesOn h (server.Notify t p room) (server.NotReplied e) g
    × ServerNumbers h (server.Notify t p room) (server.NotReplied e) old new
NotifyStep h old ts of plain room entry g new = server_run.NotifyStep h ts of plain room entry g × (new ≡ old)

-- a restart's entry; if it is refused, nothing but the keeper changed (RFC 8613, B.1)
abbrev pub RestartStep : {K : Type 0} {k : keeper.Ghosts K} → server.History → Source K k → KeptServerEntry → server.History → Source K k → Type 0
RestartStep {k = k} h old (server_entries.Restarted (Ok x)) g new = (loaded : ℕ) × Loaded k.loads k.failures old.keeper loaded new.keeper
    × Goes (Load loaded) (own_in old) (own_in new) × server_run.GoesOn h (server.Restart 0 loaded) server.Restarted g
RestartStep {k = k} h old (server_entries.Restarted (Err e)) g new = RefusesAt k.loads k.failures old.keeper e new.keeper × (g ≡ h) × (own_in new ≡ own_in old)
    × (e ≡ LivesExhausted → (loaded : ℕ) → ServerAnswer h (server.Restart 0 loaded) (server.NotRestarted restarts.LivesExhausted))
RestartStep h old entry g new = ⊥

-- one event and its entry; o is the ticket that it gives, if it gives one, and us are the tickets that are left (own rule)
abbrev pub Serves : {K : Type 0} {k : keeper.Ghosts K} → ServerState k → KeptServerEvent → KeptServerEntry → server.History → Source K k → List (Option server.TicketValues) → Option server.TicketValues → Type 0
Serves s (server_events.Datagram a) (server_entries.Served entry) g new us o = ArrivalStep s.history s.source a entry g new o × (us ≡ s.tickets)
Serves s (server_events.Reply r) (server_entries.Served entry) g new us o = ReplyStep s.history s.source s.tickets r.of r.own r.mid r.plain.items (length r.out.items) entry g new us × (o ≡ None)
Serves s (server_events.Notify r) (server_entries.Served entry) g new us o = NotifyStep s.history s.source s.tickets r.of r.plain.items (length r.out.items) entry g new × (us ≡ s.tickets) × (o ≡ None)
Serves s (server_events.Drop of) (server_entries.Served entry) g new us o = server_run.DropStep s.history s.tickets of entry g us × (new ≡ s.source) × (o ≡ None)
Serves s server_events.Restart entry g new us o = RestartStep s.history s.source entry g new × (us ≡ s.tickets) × (o ≡ None)
Serves s event entry g new us o = ⊥

-- one step of a run: the tickets get one more place (own rule)
abbrev pub ServerStep : {K : Type 0} {k : keeper.Ghosts K} → ServerState k → KeptServerEvent → KeptServerEntry → ServerState k → Type 0
ServerStep s event entry t = (us : List (Option server.TicketValues)) × (o : Option server.TicketValues)
    × Serves s event entry t.history t.source us o × (t.tickets ≡ us ++ o ∷ [])

-- the log of these events, one entry each (own rule)
abbrev pub ServerRun : {K : Type 0} {k : keeper.Ghosts K} → ServerState k → List KeptServerEvent → List KeptServerEntry → ServerState k → Type 0
ServerRun s events log t = RunOf ServerStep s events log t

-- ---- clients

-- a kept client in a run: its history and its numbers (own rule)
pub record ClientState {K : Type 0} (k : keeper.Ghosts K) : Type 0 where
  pub history : client.History
  pub source : Source K k

-- what became of the numbers in the last event: a draw if it asks for one, then the use of the number that it sealed with (RFC 8613, 7.2.1 and B.1.1)
abbrev pub ClientNumbers : {K : Type 0} {k : keeper.Ghosts K} → ClientState k → ClientState k → Type 0
ClientNumbers s t = (event : client.Event) × (entry : client.Entry) × (t.history ≡ client.Then s.history event entry)
    × Steps (asking.draws event) (asking.uses s.history event entry) (own_in s.source) (own_in t.source) × Worked s.source t.source

-- as in the run of a client, with the numbers (RFC 8613, 8.1 and 8.4)
abbrev pub Asks : {K : Type 0} {k : keeper.Ghosts K} → ℕ → ClientState k → ClientEvent → ClientEntry → ClientState k → Type 0
Asks n s event entry t = client_run.ClientRunStep n s.history event entry t.history × ClientNumbers s t

-- a request's entry; if the keeper failed, only the clock moved (own rule)
abbrev pub RequestStep : {K : Type 0} {k : keeper.Ghosts K} → ℕ → ClientState k → ℕ → List ℕ → ℕ → ClientEntry → ClientState k → Type 0
RequestStep n s now plain room (asked.NotSent requests.KeeperFailed) t =
    (p : Parts) × IsDatagram p plain × (t.history ≡ client.Then s.history (client.Advance now) client.Advanced) × Failed s.source t.source
RequestStep n s now plain room entry t = client_run.RequestStep n s.history now plain room entry t.history × ClientNumbers s t

-- a restart's entry; if it is refused, nothing but the keeper changed (RFC 8613, B.1.1)
abbrev pub ClientRestartStep : {K : Type 0} {k : keeper.Ghosts K} → ℕ → ClientState k → KeptClientEntry → ClientState k → Type 0
ClientRestartStep {k = k} n s (client_entries.Restarted (Ok x)) t = (loaded : ℕ) × Loaded k.loads k.failures s.source.keeper loaded t.source.keeper
    × Goes (Load loaded) (own_in s.source) (own_in t.source) × client_run.GoesOn n s.history (client.Restart loaded) client.Restarted t.history
ClientRestartStep {k = k} n s (client_entries.Restarted (Err e)) t =
    RefusesAt k.loads k.failures s.source.keeper e t.source.keeper × (t.history ≡ s.history) × (own_in t.source ≡ own_in s.source)
ClientRestartStep n s entry t = ⊥

-- one event and its entry; n is how many pending requests there is room for (own rule)
abbrev pub ClientStep : {K : Type 0} {k : keeper.Ghosts K} → ℕ → ClientState k → KeptClientEvent → KeptClientEntry → ClientState k → Type 0
ClientStep n s (client_events.Request now plain out) (client_entries.Asked entry) t = RequestStep n s now plain.items (length out.items) entry t
ClientStep n s (client_events.Datagram now bytes) (client_entries.Asked entry) t = Asks n s (asks.Datagram now bytes) entry t
ClientStep n s (client_events.Forget token) (client_entries.Asked entry) t = Asks n s (asks.Forget token) entry t
ClientStep n s client_events.Restart entry t = ClientRestartStep n s entry t
ClientStep n s event entry t = ⊥

-- the log of these events, one entry each (own rule)
abbrev pub ClientRun : {K : Type 0} {k : keeper.Ghosts K} → ℕ → ClientState k → List KeptClientEvent → List KeptClientEntry → ClientState k → Type 0
ClientRun n s events log t = RunOf (ClientStep n) s events log t

-- a server's state, from its parts (own rule)
abbrev pub server_state : {K : Type 0} {k : keeper.Ghosts K} → server.History → Source K k → List (Option server.TicketValues) → ServerState k
server_state h source ts = record { history = h; source = source; tickets = ts }

-- a client's state, from its parts (own rule)
abbrev pub client_state : {K : Type 0} {k : keeper.Ghosts K} → client.History → Source K k → ClientState k
client_state h source = record { history = h; source = source }
