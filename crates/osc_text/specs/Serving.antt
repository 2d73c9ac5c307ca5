-- To be believed: what `run` prints for a server and its input (RFC 8613, 7.4, 8.2, 8.3 and 8.3.1; own rule: the lines). g is what the context is derived
-- from, s that context, h and k are the histories before and after, ts and us the tickets before and after, with one place for each event.
use Rattle.std.specs.Prelude.{◌≡◌, ◌+◌, ◌++◌, ◌∷◌, [], ℕ, List, Bool, Option, Some, None, is_some, length, slice_set, if◌then◌else◌}
use Rattle.osc_coap.specs.Datagram.{Parts, IsDatagram}
use Rattle.osc_coap.specs.Fault.{HasFault}
use Rattle.osc_coap.specs.declared.format_error.Fault.{Fault as MessageFault}
use Rattle.osc_context.specs.SecurityContext.{SecurityContext}
use Rattle.osc_context.specs.declared.features.Features.{Features}
use Rattle.osc_text.specs.declared.agreed.Agreed.{Agreed}
use Rattle.osc_window.specs.declared.window_size.WindowSize.{WindowSize}
use Rattle.osc_endpoint.specs.ServerAnswer.{ServerAnswer}
use Rattle.osc_life.specs.LifeAnswer.{asks_own}
use Rattle.osc_life.specs.ServerHistory.{History, Begin, Then, Event, Answer, TicketValues, Add, Datagram, Reply, Notify, Replace, Restart, Added, NotAdded, Took, Replaced, NotReplaced, Replied, NotReplied, Restarted, NotRestarted}
use Rattle.osc_endpoint.specs.ServerRun.{GoesOn, ticket_at}
use Rattle.osc_life.specs.Logged.{ticket_of}
use Rattle.osc_life.specs.Text.{add_error_text, replace_error_text, reply_error_text, restart_error_text}
use Rattle.osc_life.specs.declared.server_error.AddError.{AddError}
use Rattle.osc_life.specs.declared.server_error.ReplaceError.{ReplaceError}
use Rattle.osc_life.specs.declared.server_error.ReplyError.{ReplyError}
use Rattle.osc_life.specs.declared.server_error.RestartError.{RestartError}
use Rattle.osc_life.specs.declared.start.Start.{Start}
use Rattle.osc_life.specs.declared.start.Start.TheVariants as starts
use Rattle.osc_text.specs.Contexts.{agreed_server, InContext, Told}
use Rattle.osc_text.specs.EntryLines.{bad_plain_line, not_done_line, replaced_line, restarted_line}
use Rattle.osc_text.specs.InputEvents.{InputEvent}
use Rattle.osc_text.specs.InputEvents as input
use Rattle.osc_text.specs.InputText.{HasBadLineOf, InputText}
use Rattle.osc_text.specs.Lines.{refused_line}
use Rattle.osc_text.specs.ReplaceEvents.{OrReplace, SpellsServing}
use Rattle.osc_text.specs.ReplaceEvents as lines
use Rattle.osc_text.specs.ServerLines.{took_line, replied_line, no_ticket_line, dropped_line}
use Rattle.osc_text.specs.declared.serving.Serving.{Serving}

-- the room for each reply and each notification: the length of its plain message plus 128 bytes (own rule)
abbrev pub reply_room : List ℕ → ℕ
reply_room plain = length plain + 128

-- what the application sends by the ticket that is left in a place, and the line of its entry; event says what it is, left are the tickets if it is sealed (RFC 8613, 8.3 and 8.3.1)
pub data AnsweredLine (h : History) (ts : List (Option TicketValues)) (of : ℕ) (event : TicketValues → Parts → Event) (left : List (Option TicketValues))
    (plain line : List ℕ) (k : History) (us : List (Option TicketValues)) : Type 0 where
  no_ticket : ticket_at ts of ≡ None → line ≡ no_ticket_line → k ≡ h → us ≡ ts → AnsweredLine h ts of event left plain line k us
  bad_plain : (t : TicketValues) (fault : MessageFault) (place : ℕ) → ticket_at ts of ≡ Some t → HasFault plain fault place
      → line ≡ bad_plain_line fault place → k ≡ h → us ≡ ts → AnsweredLine h ts of event left plain line k us
  replied : (t : TicketValues) (p : Parts) (bytes : List ℕ) → ticket_at ts of ≡ Some t → IsDatagram p plain
      → GoesOn h (event t p) (Replied bytes) k → line ≡ replied_line bytes → us ≡ left → AnsweredLine h ts of event left plain line k us
  refused : (t : TicketValues) (p : Parts) (e : ReplyError) → ticket_at ts of ≡ Some t → IsDatagram p plain
      → GoesOn h (event t p) (NotReplied e) k → line ≡ not_done_line (reply_error_text e) → us ≡ ts → AnsweredLine h ts of event left plain line k us

-- a reply, which takes the ticket if it is sealed, and has a Partial IV of its own if the ticket's request registers an observation (RFC 8613, 4.1.3.5 and 8.3)
abbrev pub ReplyLine : History → List (Option TicketValues) → ℕ → Bool → ℕ → List ℕ → List ℕ → History → List (Option TicketValues) → Type 0
ReplyLine h ts of own mid plain line k us = AnsweredLine h ts of (λ t p. Reply t (asks_own t own) mid p (reply_room plain)) (slice_set ts of None) plain line k us

-- a notification, which leaves the ticket (RFC 8613, 8.3.1)
abbrev pub NotifyLine : History → List (Option TicketValues) → ℕ → List ℕ → List ℕ → History → Type 0
NotifyLine h ts of plain line k = AnsweredLine h ts of (λ t p. Notify t p (reply_room plain)) ts plain line k ts

-- a ticket that is dropped, if one is left in the place, and the line that says whether it was; the server isn't told (own rule)
abbrev pub DropLine : History → List (Option TicketValues) → ℕ → List ℕ → History → List (Option TicketValues) → Type 0
DropLine h ts of line k us = (line ≡ dropped_line (is_some (ticket_at ts of))) × (k ≡ h) × (us ≡ slice_set ts of None)

-- a restart of the context, and the line of its entry (RFC 8613, B.1)
pub data RestartLine (h : History) (next : ℕ) (line : List ℕ) (k : History) : Type 0 where
  restarted : GoesOn h (Restart 0 next) Restarted k → line ≡ restarted_line → RestartLine h next line k
  refused : (e : RestartError) → GoesOn h (Restart 0 next) (NotRestarted e) k → line ≡ not_done_line (restart_error_text e) → RestartLine h next line k

-- an event and the line of its entry, which is the server's answer (RFC 8613, 7.4, 8.2, 8.3 and 8.3.1)
abbrev pub EventLine : History → List (Option TicketValues) → InputEvent ℕ → List ℕ → History → List (Option TicketValues) → Type 0
EventLine h ts (input.Take now echo mid d) line k us =
    (answer : Answer) × (reply : List ℕ) × GoesOn h (Datagram now echo mid d) (Took answer reply) k
    × (us ≡ ts ++ ticket_of answer ∷ []) × (line ≡ took_line answer reply)
EventLine h ts (input.Reply of own mid plain) line k us =
    (left : List (Option TicketValues)) × ReplyLine h ts of own mid plain line k left × (us ≡ left ++ None ∷ [])
EventLine h ts (input.Notify of plain) line k us = NotifyLine h ts of plain line k × (us ≡ ts ++ None ∷ [])
EventLine h ts (input.Drop of) line k us =
    (left : List (Option TicketValues)) × DropLine h ts of line k left × (us ≡ left ++ None ∷ [])
EventLine h ts (input.Restart next) line k us = RestartLine h next line k × (us ≡ ts ++ None ∷ [])

-- another context in the place of the server's, and the line of its entry (RFC 8613, 3.3)
pub data ReplaceLine (h : History) (by : SecurityContext) (start : Start) (size : WindowSize) (line : List ℕ) (k : History) : Type 0 where
  replaced : GoesOn h (Replace 0 by start size) Replaced k → line ≡ replaced_line → ReplaceLine h by start size line k
  refused : (e : ReplaceError) → GoesOn h (Replace 0 by start size) (NotReplaced e) k → line ≡ not_done_line (replace_error_text e) → ReplaceLine h by start size line k

-- a server of a run: its history and its tickets, and what all contexts of the run have, the features that they take part in, and the size of their windows (own rule)
pub record ServingState : Type 0 where
  pub history : History
  pub tickets : List (Option TicketValues)
  pub features : Features
  pub size : WindowSize

-- both are servers of one run (own rule)
abbrev pub AreOfOneRun : ServingState → ServingState → Type 0
AreOfOneRun s t = (t.features ≡ s.features) × (t.size ≡ s.size)

-- what a line asks of a server, and the line of the entry; another context has the features of the run (RFC 8613, 3.3, 7.4, 8.2, 8.3 and 8.3.1)
abbrev pub ServerLine : ServingState → OrReplace (InputEvent ℕ) Start → List ℕ → ServingState → Type 0
ServerLine s (lines.Event event) line t = EventLine s.history s.tickets event line t.history t.tickets × AreOfOneRun s t
ServerLine s (lines.Replace by start) line t =
    ReplaceLine s.history (record by { features = s.features }) start s.size line t.history × (t.tickets ≡ s.tickets ++ None ∷ []) × AreOfOneRun s t

-- a server that started, with no ticket yet (RFC 8613, B.1)
abbrev pub serving_from : SecurityContext → Start → WindowSize → ℕ → ServingState
serving_from s start size index = record { history = Then Begin (Add s start size 1) (Added index); tickets = []; features = s.features; size = size }

-- how the context begins: restarted, or fresh (RFC 8613, B.1)
abbrev pub start_of : Serving → Start
start_of serving = if serving.is_restarted then starts.Restarted serving.next else starts.Fresh serving.next

-- what a server prints under a context: the line of a refused start, or one line for each event of the input (RFC 8613, 7.4, 8.2, 8.3 and 8.3.1)
pub data ServerText (s : SecurityContext) (start : Start) (size : WindowSize) (bytes : List ℕ) (lines : List (List ℕ)) (status : ℕ) : Type 0 where
  not_started : (e : AddError) → ServerAnswer Begin (Add s start size 1) (NotAdded e) → lines ≡ refused_line (add_error_text e) ∷ [] → status ≡ 2 → ServerText s start size bytes lines status
  served : (index : ℕ) → ServerAnswer Begin (Add s start size 1) (Added index)
      → InputText SpellsServing ServerLine (serving_from s start size index) bytes lines status → ServerText s start size bytes lines status

-- what `run` prints for a server (RFC 8613, 7.4, 8.2, 8.3 and 8.3.1)
abbrev pub ServeText : Agreed → Serving → List ℕ → Told
ServeText g serving bytes = InContext g.params (ServerText (agreed_server g) (start_of serving) serving.window bytes)

-- the context is derived and starts, and the line with this number, counted from 1, is the first that spells no event (own rule)
abbrev pub HasBadLine : Agreed → Serving → List ℕ → ℕ → Type 0
HasBadLine g serving = HasBadLineOf g.params (λ index. ServerAnswer Begin (Add (agreed_server g) (start_of serving) serving.window 1) (Added index)) SpellsServing
