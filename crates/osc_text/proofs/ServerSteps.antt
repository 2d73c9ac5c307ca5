-- A run of the code is one of the lines' events.
use Rattle.std.proofs.Common.{◌≡◌, ℕ, Bool, List, ◌++◌, length, Option, Ok, Err, refl, ap, subst}
use Rattle.osc_context.specs.Views.{number_of}
use Rattle.osc_life.specs.declared.seen.Seen.{Seen}
use Rattle.osc_life.specs.declared.seen.Seen.TheVariants as seen
use Rattle.osc_endpoint.specs.declared.server_event.ServerEvent.{ServerEvent}
use Rattle.osc_endpoint.specs.declared.server_event.ServerEvent.TheVariants as events
use Rattle.osc_endpoint.specs.declared.server_event.ServerEntry.{ServerEntry}
use Rattle.osc_endpoint.specs.declared.server_event.ServerEntry.TheVariants as entries
use Rattle.osc_life.specs.ServerHistory.{History, Answer, TicketValues, Malformed, NotRequest, Plain, Undecodable, NoContext, Replay, BadTag, BadInner, Challenge, SequenceExhausted, Deliver, NotReplied, NotRestarted, Replied, Reply, Restart, Restarted, Notify}
use Rattle.osc_observe.specs.Received.{Received}
use Rattle.osc_life.specs.LifeAnswer.{asks_own}
use Rattle.osc_endpoint.specs.ServerRun.{DropStep, GoesOn, NotifyStep, ReplyStep, ServerRunStep}
use Rattle.osc_life.specs.Logged.{Logs}
use Rattle.osc_text.specs.EntryLines.{entry_line}
use Rattle.osc_text.specs.ServedReading.{IsOfRun, event_seen}
use Rattle.osc_text.specs.ServerLines.{answer_text, delivery_text, dropped_line, reply_text}
use Rattle.osc_text.specs.ServerLog.{log_line, seen_text}
use Rattle.osc_text.specs.Serving.{DropLine, EventLine, NotifyLine, ReplyLine, reply_room}
use Rattle.osc_text.specs.Serving.AnsweredLine.{no_ticket, bad_plain, replied, refused}
use Rattle.osc_text.specs.Serving.RestartLine.{restarted, refused as not_restarted}

-- what the log shows of an answer prints as the answer does
seen_is : (x : Seen) (answer : Answer) → Logs x answer → seen_text x ≡ answer_text answer
seen_is (seen.Malformed e) (Malformed fault place) h = rw (h.0, h.1) refl
seen_is seen.NotRequest NotRequest h = refl
seen_is seen.Plain Plain h = refl
seen_is seen.Undecodable Undecodable h = refl
seen_is seen.NoContext NoContext h = refl
seen_is seen.Replay Replay h = refl
seen_is seen.BadTag BadTag h = refl
seen_is seen.BadInner (BadInner i n) h = refl
seen_is (seen.Challenge echo issued) (Challenge i n given moment) h = rw (h.0) refl
seen_is seen.SequenceExhausted SequenceExhausted h = refl
seen_is (seen.Deliver opened context number) (Deliver received ticket) h =
    rw (h.1, h.2) (ap (λ (r : Received). delivery_text ticket.context ticket.number r.message) h.0)
seen_is x answer h = absurd h

-- a reply of the code is one of the lines
reply_is : (h k : History) (ts us : List (Option TicketValues)) (of : ℕ) (own : Bool) (mid : ℕ) (plain : List ℕ) (room : ℕ) (x : ServerEntry)
    → room ≡ reply_room plain → ReplyStep h ts of own mid plain room x k us → ReplyLine h ts of own mid plain (log_line x) k us
reply_is h k ts us of own mid plain room entries.NoTicket is s = no_ticket s.0 refl s.1 s.2
reply_is h k ts us of own mid plain room (entries.BadPlain e) is s = bad_plain s.0 e.fault e.place s.1 s.2 refl s.3 s.4
reply_is h k ts us of own mid plain room (entries.Replied (Ok sealed)) is (t, at, p, reads, goes, used, number) =
    replied t p sealed.datagram.now at reads (subst (λ (r : ℕ). GoesOn h (Reply t (asks_own t own) mid p r) (Replied sealed.datagram.now) k) is goes) refl used
reply_is h k ts us of own mid plain room (entries.Replied (Err e)) is (t, at, p, reads, goes, used) =
    refused t p e at reads (subst (λ (r : ℕ). GoesOn h (Reply t (asks_own t own) mid p r) (NotReplied e) k) is goes) refl used
reply_is h k ts us of own mid plain room x is s = absurd s

-- a notification of the code is one of the lines
notify_is : (h k : History) (ts : List (Option TicketValues)) (of : ℕ) (plain : List ℕ) (room : ℕ) (x : ServerEntry)
    → room ≡ reply_room plain → NotifyStep h ts of plain room x k → NotifyLine h ts of plain (log_line x) k
notify_is h k ts of plain room entries.NoTicket is s = no_ticket s.0 refl s.1 refl
notify_is h k ts of plain room (entries.BadPlain e) is s = bad_plain s.0 e.fault e.place s.1 s.2 refl s.3 refl
notify_is h k ts of plain room (entries.Replied (Ok sealed)) is (t, at, p, reads, goes, number) =
    replied t p sealed.datagram.now at reads (subst (λ (r : ℕ). GoesOn h (Notify t p r) (Replied sealed.datagram.now) k) is goes) refl refl
notify_is h k ts of plain room (entries.Replied (Err e)) is (t, at, p, reads, goes) =
    refused t p e at reads (subst (λ (r : ℕ). GoesOn h (Notify t p r) (NotReplied e) k) is goes) refl refl
notify_is h k ts of plain room x is s = absurd s

-- a ticket that the code drops is one of the lines
drop_is : (h k : History) (ts us : List (Option TicketValues)) (of : ℕ) (x : ServerEntry) → DropStep h ts of x k us → DropLine h ts of (log_line x) k us
drop_is h k ts us of (entries.Dropped there) s = (ap dropped_line s.0, s.1, s.2)
drop_is h k ts us of x s = absurd s

-- a step of the code is one of the lines
pub step_is : (h k : History) (ts us : List (Option TicketValues)) (e : ServerEvent) (x : ServerEntry) → IsOfRun e → ServerRunStep h ts e x k us → EventLine h ts (event_seen e) (log_line x) k us
step_is h k ts us (events.Datagram a) (entries.Took x reply) is (answer, logs, goes, after) =
    (answer, reply.now, goes, after, ap (λ (text : List ℕ). entry_line (text ++ reply_text reply.now)) (seen_is x answer logs))
step_is h k ts us (events.Reply r) x is (left, step, after) = (left, reply_is h k ts left r.of r.own r.mid r.plain.items (length r.out.items) x is step, after)
step_is h k ts us (events.Notify r) x is (step, after) = (notify_is h k ts r.of r.plain.items (length r.out.items) x is step, after)
step_is h k ts us (events.Drop of) x is (left, step, after) = (left, drop_is h k ts left of x step, after)
step_is h k ts us (events.Restart context next) (entries.Restarted (Ok y)) is (goes, after) =
    (restarted (subst (λ (i : ℕ). GoesOn h (Restart i (number_of next)) Restarted k) is goes) refl, after)
step_is h k ts us (events.Restart context next) (entries.Restarted (Err e)) is (goes, after) =
    (not_restarted e (subst (λ (i : ℕ). GoesOn h (Restart i (number_of next)) (NotRestarted e) k) is goes) refl, after)
step_is h k ts us e x is s = absurd s
