-- To be believed: what each entry of a client's run is, in one statement: contracts of headlines.rt. c is the number of pending requests
-- that there is room for, h a history of answers, k a place of a log, n the number of a request, own a response's own Partial IV or none, m a
-- message, d a datagram.
use Rattle.std.specs.Prelude.{◌≡◌, ◌↔◌, ℕ, Bool, List, Option, Some, max, slice_get, take}
use Rattle.osc_coap.specs.Inner.{InnerParts}
use Rattle.osc_client.specs.ClientAnswer.{ClientAnswer, Hears, ResponseAnswer, told}
use Rattle.osc_client.specs.ClientHistory.{History, Then, Event, Entry, Answer, clock}
use Rattle.osc_laws.specs.ClientLaws.{AllClientAnswers}
use Rattle.osc_endpoint.specs.ClientRun.{ClientRunStep, Run}
use Rattle.osc_client.specs.Views.{ClientShows, client_hearing_of}
use Rattle.osc_endpoint.specs.declared.client_event.ClientEvent.{ClientEvent}
use Rattle.osc_endpoint.specs.declared.client_event.ClientEvent.TheVariants as events
use Rattle.osc_endpoint.specs.declared.client_event.ClientEntry.{ClientEntry}
use Rattle.osc_endpoint.specs.declared.client_event.ClientEntry.TheVariants as entries
use Rattle.osc_client.specs.declared.client_outcome.ClientOutcome.{ClientOutcome}

-- after a history of answers, the conditions of a datagram's rows exclude each other: a row's condition holds if and only if that row is
-- the answer, and the answer delivers or notifies exactly what is to be; each other event has at most one entry (RFC 8613, 8.1 and 8.4)
pub record ClientRows (c : ℕ) (h : History) : Type 0 where
  pub one : (now : ℕ) (d : List ℕ) (x y : Answer) → ResponseAnswer h (max (clock h) now) d x → ResponseAnswer h (max (clock h) now) d y → x ≡ y
  pub hearing : (now n : ℕ) (d : List ℕ) (x : Answer) (continuing : Bool) (own : Option ℕ) (m : InnerParts) → ResponseAnswer h (max (clock h) now) d x
      → (told x ≡ Some (continuing, n, own, m)) ↔ Hears h now d continuing n own m
  pub entry : (event : Event) (x y : Entry) → ClientAnswer c h event x → (x ≡ y) ↔ ClientAnswer c h event y

-- that holds after every history of answers (RFC 8613, 8.1 and 8.4)
abbrev pub ClientRowsExclude : Type 0
ClientRowsExclude = (c : ℕ) (h : History) → AllClientAnswers c h → ClientRows c h

-- a log entry for a datagram: it delivers or notifies exactly what is to be, and its row's condition holds and no other row's (RFC 8613, 8.4)
pub record DatagramStands (h : History) (now : ℕ) (d : List ℕ) (x : ClientOutcome) : Type 0 where
  pub hearing : (continuing : Bool) (n : ℕ) (own : Option ℕ) (m : InnerParts) → (client_hearing_of x ≡ Some (continuing, n, own, m)) ↔ Hears h now d continuing n own m
  pub answer : Answer
  pub shows : ClientShows x answer
  pub row : (y : Answer) → (answer ≡ y) ↔ ResponseAnswer h (max (clock h) now) d y

-- what an entry of a log is, if its event is a datagram (RFC 8613, 8.4)
abbrev pub EntryStands : History → ClientEvent → ClientEntry → Type 0
EntryStands h (events.Datagram now bytes) (entries.Took outcome) = DatagramStands h now bytes.items outcome
EntryStands h event entry = Unit {0}

-- the history continues with an event and its one answer (own rule)
abbrev pub GoesOnAlone : ℕ → History → History → Type 0
GoesOnAlone c h g = (event : Event) × (entry : Entry) × (g ≡ Then h event entry) × ((other : Entry) → (entry ≡ other) ↔ ClientAnswer c h event other)

-- the entry at a place of a run's log, after the history of the entries before it (RFC 8613, 8.1 and 8.4)
pub record StandsAt (c : ℕ) (h : History) (es : List ClientEvent) (xs : List ClientEntry) (k : ℕ) (e : ClientEvent) (x : ClientEntry) : Type 0 where
  pub before : History
  pub run : Run c h (take k es) (take k xs) before
  pub all : AllClientAnswers c before
  pub after : History
  pub step : ClientRunStep c before e x after
  pub alone : GoesOnAlone c before after
  pub stands : EntryStands before e x

-- the headline: over every list of events, this is so for each entry of the log (RFC 8613, 8.1 and 8.4)
abbrev pub ClientHeadline : Type 0
ClientHeadline = (c : ℕ) (h g : History) (es : List ClientEvent) (xs : List ClientEntry) → AllClientAnswers c h → Run c h es xs g
    → AllClientAnswers c g × ((k : ℕ) (e : ClientEvent) (x : ClientEntry) → slice_get es k ≡ Some e → slice_get xs k ≡ Some x → StandsAt c h es xs k e x)
