-- To be believed: a run of a server: the log of its events, and the history that they add to. h and g are the histories before and after,
-- ts and us the tickets that the run has before and after, one place for each event.
use Rattle.std.specs.Prelude.{◌≡◌, ◌++◌, ◌∷◌, [], ℕ, List, Bool, true, Option, Some, None, Ok, Err, if◌then◌else◌, map, length, is_some, slice_get, slice_set}
use Rattle.std.specs.Option.{option_and_then, option_map}
use Rattle.osc_coap.specs.Datagram.{Parts, IsDatagram}
use Rattle.osc_coap.specs.Fault.{HasFault}
use Rattle.osc_context.specs.Views.{number_of}
use Rattle.osc_endpoint.specs.declared.server_event.ServerEvent.{ServerEvent}
use Rattle.osc_endpoint.specs.declared.server_event.ServerEvent.TheVariants as events
use Rattle.osc_endpoint.specs.declared.server_event.ServerEntry.{ServerEntry}
use Rattle.osc_endpoint.specs.declared.server_event.ServerEntry.TheVariants as entries
use Rattle.osc_life.specs.Life.{next_own}
use Rattle.osc_life.specs.ServerHistory.{History, Then, Event, Entry, Answer, TicketValues, Datagram, Reply, Notify, Restart, Took, Replied, NotReplied, Restarted, NotRestarted, life}
use Rattle.osc_endpoint.specs.ServerAnswer.{ServerAnswer}
use Rattle.osc_life.specs.LifeAnswer.{asks_own}
use Rattle.osc_life.specs.Views.{values_of}
use Rattle.osc_life.specs.declared.ticket.Ticket.{Ticket}
use Rattle.osc_life.specs.Logged.{Logs, ticket_of}

-- the ticket that is left at this place (own rule)
abbrev pub ticket_at : List (Option TicketValues) → ℕ → Option TicketValues
ticket_at ts i = option_and_then (λ t. t) (slice_get ts i)

-- the server answers the event with this entry, and the history continues with both (own rule)
abbrev pub GoesOn : History → Event → Entry → History → Type 0
GoesOn h event entry g = ServerAnswer h event entry × (g ≡ Then h event entry)

-- the Sender Sequence Number of a response by this ticket, if it has a Partial IV of its own: the next one of its context (RFC 8613, 8.3)
abbrev pub response_number : History → TicketValues → Bool → Option ℕ
response_number h t own = if own then option_map next_own (life h t.context) else None

-- a reply by the ticket at this place; an accepted reply takes the ticket, and has a Partial IV of its own if the ticket's request registers an observation;
-- the entry has its number (own rule; RFC 8613, 4.1.3.5)
abbrev pub ReplyStep : History → List (Option TicketValues) → ℕ → Bool → ℕ → List ℕ → ℕ → ServerEntry → History → List (Option TicketValues) → Type 0
ReplyStep h ts of own mid plain room entries.NoTicket g us = (ticket_at ts of ≡ None) × (g ≡ h) × (us ≡ ts)
ReplyStep h ts of own mid plain room (entries.BadPlain e) g us =
    (t : TicketValues) × (ticket_at ts of ≡ Some t) × HasFault plain e.fault e.place × (g ≡ h) × (us ≡ ts)
ReplyStep h ts of own mid plain room (entries.Replied (Ok sealed)) g us =
    (t : TicketValues) × (ticket_at ts of ≡ Some t) × (p : Parts) × IsDatagram p plain
    × GoesOn h (Reply t (asks_own t own) mid p room) (Replied sealed.datagram.now) g × (us ≡ slice_set ts of None)
    × (option_map number_of sealed.number ≡ response_number h t (asks_own t own))
ReplyStep h ts of own mid plain room (entries.Replied (Err e)) g us =
    (t : TicketValues) × (ticket_at ts of ≡ Some t) × (p : Parts) × IsDatagram p plain
    × GoesOn h (Reply t (asks_own t own) mid p room) (NotReplied e) g × (us ≡ ts)
ReplyStep h ts of own mid plain room entry g us = ⊥

-- a notification by the ticket at this place, which stays; the entry has its number (own rule)
abbrev pub NotifyStep : History → List (Option TicketValues) → ℕ → List ℕ → ℕ → ServerEntry → History → Type 0
NotifyStep h ts of plain room entries.NoTicket g = (ticket_at ts of ≡ None) × (g ≡ h)
NotifyStep h ts of plain room (entries.BadPlain e) g = (t : TicketValues) × (ticket_at ts of ≡ Some t) × HasFault plain e.fault e.place × (g ≡ h)
NotifyStep h ts of plain room (entries.Replied (Ok sealed)) g =
    (t : TicketValues) × (ticket_at ts of ≡ Some t) × (p : Parts) × IsDatagram p plain × GoesOn h (Notify t p room) (Replied sealed.datagram.now) g
    × (option_map number_of sealed.number ≡ response_number h t true)
NotifyStep h ts of plain room (entries.Replied (Err e)) g =
    (t : TicketValues) × (ticket_at ts of ≡ Some t) × (p : Parts) × IsDatagram p plain × GoesOn h (Notify t p room) (NotReplied e) g
NotifyStep h ts of plain room entry g = ⊥

-- the ticket at this place is dropped, if one is left; the server isn't told (own rule)
abbrev pub DropStep : History → List (Option TicketValues) → ℕ → ServerEntry → History → List (Option TicketValues) → Type 0
DropStep h ts of (entries.Dropped there) g us = (there ≡ is_some (ticket_at ts of)) × (g ≡ h) × (us ≡ slice_set ts of None)
DropStep h ts of entry g us = ⊥

-- one event, its entry, the history after it, and the tickets, with one more place (own rule)
abbrev pub ServerRunStep : History → List (Option TicketValues) → ServerEvent → ServerEntry → History → List (Option TicketValues) → Type 0
ServerRunStep h ts (events.Datagram a) (entries.Took x reply) g us =
    (answer : Answer) × Logs x answer
    × GoesOn h (Datagram a.now a.fresh.echo a.fresh.mid a.bytes.items) (Took answer reply.now) g × (us ≡ ts ++ ticket_of answer ∷ [])
ServerRunStep h ts (events.Reply r) entry g us =
    (left : List (Option TicketValues)) × ReplyStep h ts r.of r.own r.mid r.plain.items (length r.out.items) entry g left × (us ≡ left ++ None ∷ [])
ServerRunStep h ts (events.Notify r) entry g us = NotifyStep h ts r.of r.plain.items (length r.out.items) entry g × (us ≡ ts ++ None ∷ [])
ServerRunStep h ts (events.Drop of) entry g us = (left : List (Option TicketValues)) × DropStep h ts of entry g left × (us ≡ left ++ None ∷ [])
ServerRunStep h ts (events.Restart context next) (entries.Restarted (Ok x)) g us = GoesOn h (Restart context (number_of next)) Restarted g × (us ≡ ts ++ None ∷ [])
ServerRunStep h ts (events.Restart context next) (entries.Restarted (Err e)) g us = GoesOn h (Restart context (number_of next)) (NotRestarted e) g × (us ≡ ts ++ None ∷ [])
ServerRunStep h ts event entry g us = ⊥

-- the log of these events, one entry each, from this history on (own rule)
abbrev pub Run : History → List (Option TicketValues) → List ServerEvent → List ServerEntry → History → List (Option TicketValues) → Type 0
Run h ts [] [] g us = (g ≡ h) × (us ≡ ts)
Run h ts [] (entry ∷ log) g us = ⊥
Run h ts (event ∷ events) [] g us = ⊥
Run h ts (event ∷ events) (entry ∷ log) g us =
    (mid : History) × (vs : List (Option TicketValues)) × ServerRunStep h ts event entry mid vs × Run mid vs events log g us

-- the tickets of a run, as the definitions see them (how the code is seen)
abbrev pub values_in : List (Option Ticket) → List (Option TicketValues)
values_in tickets = map (option_map values_of) tickets
