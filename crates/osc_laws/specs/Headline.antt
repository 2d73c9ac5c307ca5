-- To be believed: what each entry of a server's run is, in one statement: contracts of headlines.rt. h is a history of answers, ts are the
-- tickets that a run has, k is a place of its log, i the index of a context, n a number, m a message, d a datagram.
use Rattle.std.specs.Prelude.{◌≡◌, ◌⊎◌, ◌↔◌, ℕ, List, Option, Some, None, slice_get, take}
use Rattle.osc_coap.specs.Inner.{InnerParts}
use Rattle.osc_laws.specs.Laws.{AllAnswers}
use Rattle.osc_life.specs.LifeAnswer.{Arrival}
use Rattle.osc_endpoint.specs.ServerAnswer.{Delivers, MeetsRow, SaysReply, ServerAnswer, TakeAnswer, arrival}
use Rattle.osc_life.specs.ServerHistory.{History, Then, Event, Entry, Answer, Deliver, TicketValues}
use Rattle.osc_life.specs.Logged.{Logs}
use Rattle.osc_endpoint.specs.ServerRun.{Run, ServerRunStep}
use Rattle.osc_life.specs.Views.{seen_delivery}
use Rattle.osc_life.specs.declared.seen.Seen.{Seen}
use Rattle.osc_endpoint.specs.declared.server_event.ServerEvent.{ServerEvent}
use Rattle.osc_endpoint.specs.declared.server_event.ServerEvent.TheVariants as events
use Rattle.osc_endpoint.specs.declared.server_event.ServerEntry.{ServerEntry}
use Rattle.osc_endpoint.specs.declared.server_event.ServerEntry.TheVariants as entries

-- the context, the number and the message of an answer that is a delivery (own rule)
abbrev pub told : Answer → Option (ℕ × ℕ × InnerParts)
told (Deliver received ticket) = Some (ticket.context, ticket.number, received.message)
told answer = None

-- after a history of answers, the conditions of a datagram's rows exclude each other, and fix the answer: a row's condition holds if and only if that
-- row is the answer, and the answer delivers exactly what is to be delivered; each other event has at most one entry (RFC 8613, 7.4, 8.2, 8.3 and B.1.2)
pub record ServerRows (h : History) : Type 0 where
  pub one : (a : Arrival) (x y : Answer) → MeetsRow h a x → MeetsRow h a y → x ≡ y
  pub exactly : (a : Arrival) (x y : Answer) (reply : List ℕ) → TakeAnswer h a x reply → (x ≡ y) ↔ MeetsRow h a y
  pub delivery : (now mid : ℕ) (echo d reply : List ℕ) (x : Answer) (i n : ℕ) (m : InnerParts) → TakeAnswer h (arrival h now echo mid d) x reply
      → (told x ≡ Some (i, n, m)) ↔ Delivers h now d i n m
  pub entry : (event : Event) (x y : Entry) → ServerAnswer h event x → (x ≡ y) ↔ ServerAnswer h event y

-- that holds after every history of answers (RFC 8613, 7.4, 8.2, 8.3 and B.1.2)
abbrev pub ServerRowsExclude : Type 0
ServerRowsExclude = (h : History) → AllAnswers h → ServerRows h

-- a log entry for a datagram: it delivers exactly what is to be delivered, and its row's condition holds and no other row's; the reply is
-- that row's (RFC 8613, 7.4, 8.2 and B.1.2)
pub record DatagramStands (h : History) (now mid : ℕ) (echo d reply : List ℕ) (x : Seen) : Type 0 where
  pub delivery : (i n : ℕ) (m : InnerParts) → (seen_delivery x ≡ Some (i, n, m)) ↔ Delivers h now d i n m
  pub answer : Answer
  pub logs : Logs x answer
  pub row : (y : Answer) → (answer ≡ y) ↔ MeetsRow h (arrival h now echo mid d) y
  pub replies : SaysReply h (arrival h now echo mid d) answer reply

-- what an entry of a log is, if its event is a datagram (RFC 8613, 8.2)
abbrev pub EntryStands : History → ServerEvent → ServerEntry → Type 0
EntryStands h (events.Datagram a) (entries.Took x reply) = DatagramStands h a.now a.fresh.mid a.fresh.echo a.bytes.items reply.now x
EntryStands h event entry = Unit {0}

-- the history stays, or continues with an event and its one answer (own rule)
abbrev pub GoesOnAlone : History → History → Type 0
GoesOnAlone h g = (g ≡ h) ⊎ ((event : Event) × (entry : Entry) × (g ≡ Then h event entry) × ((other : Entry) → (entry ≡ other) ↔ ServerAnswer h event other))

-- the entry at a place of a run's log, after the history of the entries before it (RFC 8613, 8.2 and 8.3)
pub record StandsAt (h : History) (ts : List (Option TicketValues)) (es : List ServerEvent) (xs : List ServerEntry) (k : ℕ) (e : ServerEvent) (x : ServerEntry) : Type 0 where
  pub before : History
  pub left : List (Option TicketValues)
  pub run : Run h ts (take k es) (take k xs) before left
  pub all : AllAnswers before
  pub after : History
  pub given : List (Option TicketValues)
  pub step : ServerRunStep before left e x after given
  pub alone : GoesOnAlone before after
  pub stands : EntryStands before e x

-- the headline: over every list of events, this is so for each entry of the log (RFC 8613, 7.4, 8.2, 8.3 and B.1.2)
abbrev pub ServerHeadline : Type 0
ServerHeadline = (h g : History) (ts us : List (Option TicketValues)) (es : List ServerEvent) (xs : List ServerEntry) → AllAnswers h → Run h ts es xs g us
    → AllAnswers g × ((k : ℕ) (e : ServerEvent) (x : ServerEntry) → slice_get es k ≡ Some e → slice_get xs k ≡ Some x → StandsAt h ts es xs k e x)
