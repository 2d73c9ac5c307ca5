-- To be believed: the history of a server: what happened to it, each event with its entry. h is a history, i the index of a context, d a
-- datagram. Moments are in milliseconds.
use Rattle.std.specs.Prelude.{ℕ, ◌+◌, ◌==◌, ◌&&◌, List, Bool, true, Option, Some, None, max, if◌then◌else◌}
use Rattle.std.specs.Option.{option_map}
use Rattle.osc_coap.specs.declared.message.Kind.{Kind}
use Rattle.osc_coap.specs.declared.format_error.Fault.{Fault}
use Rattle.osc_coap.specs.Datagram.{Parts}
use Rattle.osc_context.specs.SecurityContext.{SecurityContext}
use Rattle.osc_window.specs.declared.window_size.WindowSize.{WindowSize}
use Rattle.osc_life.specs.declared.start.Start.{Start}
use Rattle.osc_life.specs.declared.server_error.AddError.{AddError}
use Rattle.osc_life.specs.declared.server_error.ReplyError.{ReplyError}
use Rattle.osc_life.specs.declared.server_error.ReplaceError.{ReplaceError}
use Rattle.osc_life.specs.declared.server_error.RestartError.{RestartError}
use Rattle.osc_life.specs.declared.server_error.SkipError.{SkipError}
use Rattle.osc_observe.specs.Received.{Received}
use Rattle.osc_life.specs.Life.{Life, Mark, Delivered, Spoiled, Challenged, Answered, PassedOver, marked, born, renewed, succeeding}

-- what a ticket holds: the context, which of its lives, the request's number and head, and whether it registers an observation (own rule)
pub record TicketValues : Type 0 where
  pub context : ℕ
  pub life : ℕ
  pub number : ℕ
  pub kind : Kind
  pub message_id : ℕ
  pub token : List ℕ
  pub observes : Bool

-- what happens to a server; places is how many contexts the server has room for, room is the length of the buffer for a reply or a notification, Skip passes over so
-- many Sender Sequence Numbers of a context, Replace puts another security context in the place of a context, Advance only moves the clock (own rule)
pub data Event : Type 0 where
  Add : (context : SecurityContext) (start : Start) (size : WindowSize) (places : ℕ) → Event
  Datagram : (now : ℕ) (echo : List ℕ) (mid : ℕ) (bytes : List ℕ) → Event
  Reply : (ticket : TicketValues) (own : Bool) (mid : ℕ) (plain : Parts) (room : ℕ) → Event
  Notify : (ticket : TicketValues) (plain : Parts) (room : ℕ) → Event
  Restart : (context next : ℕ) → Event
  Replace : (context : ℕ) (by : SecurityContext) (start : Start) (size : WindowSize) → Event
  Skip : (context count : ℕ) → Event
  Advance : (now : ℕ) → Event

-- the answer to a datagram; for a bad plaintext and a challenge it also has the context and number that the head names (own rule)
pub data Answer : Type 0 where
  Malformed : (fault : Fault) (place : ℕ) → Answer
  NotRequest : Answer
  Plain : Answer
  Undecodable : Answer
  NoContext : Answer
  Replay : Answer
  BadTag : Answer
  BadInner : (context number : ℕ) → Answer
  Challenge : (context number : ℕ) (echo : List ℕ) (issued : ℕ) → Answer
  SequenceExhausted : Answer
  Deliver : (received : Received) (ticket : TicketValues) → Answer

-- the result of an event; reply has the bytes that are sent, and is empty if there is no reply (own rule)
pub data Entry : Type 0 where
  Added : (index : ℕ) → Entry
  NotAdded : (refusal : AddError) → Entry
  Took : (answer : Answer) (reply : List ℕ) → Entry
  Replied : (bytes : List ℕ) → Entry
  NotReplied : (refusal : ReplyError) → Entry
  Restarted : Entry
  NotRestarted : (refusal : RestartError) → Entry
  Replaced : Entry
  NotReplaced : (refusal : ReplaceError) → Entry
  Skipped : Entry
  NotSkipped : (refusal : SkipError) → Entry
  Advanced : Entry

-- a history: nothing yet, or one more event and its entry after those before (own rule)
pub data History : Type 0 where
  Begin : History
  Then : (before : History) (event : Event) (entry : Entry) → History

-- the clock after an event: the later of the clock before and the event's own moment, if it has one (own rule)
abbrev pub clock_by : Event → ℕ → ℕ
clock_by (Datagram now echo mid bytes) before = max before now
clock_by (Advance now) before = max before now
clock_by event before = before

-- the clock: the greatest moment so far, 0 at first (own rule)
abbrev pub clock : History → ℕ
clock Begin = 0
clock (Then h event entry) = clock_by event (clock h)

-- how many contexts were added (own rule)
abbrev pub added : History → ℕ
added Begin = 0
added (Then h event (Added index)) = added h + 1
added (Then h event entry) = added h

-- what an answer leaves in the life of context i (RFC 8613, 7.4 and B.1.2)
abbrev pub mark_at : ℕ → Answer → Option Mark
mark_at i (BadInner context number) = if i == context then Some (Spoiled number) else None
mark_at i (Challenge context number echo issued) = if i == context then Some (Challenged echo issued) else None
mark_at i (Deliver received ticket) = if i == ticket.context then Some (Delivered ticket.number) else None
mark_at i answer = None

-- what an accepted reply or notification leaves there: if it has a Partial IV of its own, that number is used (RFC 8613, 7.2.1)
abbrev pub reply_mark_at : ℕ → TicketValues → Bool → Option Mark
reply_mark_at i ticket own = if own && (i == ticket.context) then Some Answered else None

-- what numbers that are passed over leave there (RFC 8613, 7.2.1)
abbrev pub skip_mark_at : ℕ → ℕ → ℕ → Option Mark
skip_mark_at i context count = if i == context then Some (PassedOver count) else None

-- the present life of context i: from its accepted Add, or the last accepted Restart or Replace, on (RFC 8613, B.1)
abbrev pub life : History → ℕ → Option Life
life Begin i = None
life (Then h (Add context start size places) (Added index)) i = if i == index then Some (born context start size) else life h i
life (Then h (Datagram now echo mid d) (Took answer reply)) i = option_map (marked (mark_at i answer)) (life h i)
life (Then h (Reply ticket own mid plain room) (Replied bytes)) i = option_map (marked (reply_mark_at i ticket own)) (life h i)
life (Then h (Notify ticket plain room) (Replied bytes)) i = option_map (marked (reply_mark_at i ticket true)) (life h i)
life (Then h (Restart context next) Restarted) i = if i == context then option_map (renewed next) (life h i) else life h i
life (Then h (Replace context by start size) Replaced) i = if i == context then option_map (succeeding by start size) (life h i) else life h i
life (Then h (Skip context count) Skipped) i = option_map (marked (skip_mark_at i context count)) (life h i)
life (Then h event entry) i = life h i
