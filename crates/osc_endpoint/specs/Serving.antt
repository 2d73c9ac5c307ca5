-- For the proofs: a step of a run of a server, without the place that it adds to the tickets. h and g are the histories before and
-- after, ts and us the tickets.
use Rattle.std.specs.Prelude.{◌≡◌, List, Option, None, Ok, Err, length}
use Rattle.osc_context.specs.Views.{number_of}
use Rattle.osc_endpoint.specs.declared.server_event.ServerEvent.{ServerEvent}
use Rattle.osc_endpoint.specs.declared.server_event.ServerEvent.TheVariants as events
use Rattle.osc_endpoint.specs.declared.server_event.ServerEntry.{ServerEntry}
use Rattle.osc_endpoint.specs.declared.server_event.ServerEntry.TheVariants as entries
use Rattle.osc_life.specs.ServerHistory.{History, Answer, TicketValues, Datagram, Restart, Took, Restarted, NotRestarted}
use Rattle.osc_endpoint.specs.ServerRun.{DropStep, GoesOn, NotifyStep, ReplyStep}
use Rattle.osc_life.specs.Logged.{Logs, ticket_of}

-- a step of a run without the place that each event adds to the tickets; o is the ticket in that place (how the code is seen)
abbrev pub Serves : History → List (Option TicketValues) → ServerEvent → ServerEntry → Option TicketValues → History → List (Option TicketValues) → Type 0
Serves h ts (events.Datagram a) (entries.Took x reply) o g us =
    (answer : Answer) × Logs x answer
    × GoesOn h (Datagram a.now a.fresh.echo a.fresh.mid a.bytes.items) (Took answer reply.now) g × (o ≡ ticket_of answer) × (us ≡ ts)
Serves h ts (events.Reply r) entry o g us = ReplyStep h ts r.of r.own r.mid r.plain.items (length r.out.items) entry g us × (o ≡ None)
Serves h ts (events.Notify r) entry o g us = NotifyStep h ts r.of r.plain.items (length r.out.items) entry g × (o ≡ None) × (us ≡ ts)
Serves h ts (events.Drop of) entry o g us = DropStep h ts of entry g us × (o ≡ None)
Serves h ts (events.Restart context next) (entries.Restarted (Ok x)) o g us = GoesOn h (Restart context (number_of next)) Restarted g × (o ≡ None) × (us ≡ ts)
Serves h ts (events.Restart context next) (entries.Restarted (Err e)) o g us = GoesOn h (Restart context (number_of next)) (NotRestarted e) g × (o ≡ None) × (us ≡ ts)
Serves h ts event entry o g us = ⊥
