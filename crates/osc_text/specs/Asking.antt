-- To be believed: what `run` prints for a client and its input (RFC 8613, 8.1, 8.4 and 8.4.2; own rule: the lines). g is what the context is
-- derived from, h and k are the histories before and after.
use Rattle.std.specs.Prelude.{◌≡◌, ◌+◌, ℕ, List, Bool, codes, length}
use Rattle.osc_coap.specs.Datagram.{Parts, IsDatagram}
use Rattle.osc_coap.specs.Fault.{HasFault}
use Rattle.osc_coap.specs.declared.format_error.Fault.{Fault as MessageFault}
use Rattle.osc_context.specs.ContextRefusal.{RefusesParams}
use Rattle.osc_context.specs.SecurityContext.{SecurityContext}
use Rattle.osc_context.specs.Views.{number_of}
use Rattle.osc_context.specs.declared.context_error.ContextError.{ContextError}
use Rattle.osc_context.specs.declared.features.Features.{Features}
use Rattle.osc_text.specs.declared.agreed.Agreed.{Agreed}
use Rattle.osc_client.specs.ClientHistory.{History, New, Answer, Request, Datagram, Forget, Restart, Advance, Sent, NotSent, Took, Forgot, Restarted, Advanced, HaveSameKey, context, next, replaced}
use Rattle.osc_endpoint.specs.ClientRun.{GoesOn}
use Rattle.osc_client.specs.Text.{request_error_text}
use Rattle.osc_client.specs.declared.client_outcome.RequestError.{RequestError}
use Rattle.osc_text.specs.AskedEvents.{AskedEvent}
use Rattle.osc_text.specs.AskedEvents as asked
use Rattle.osc_text.specs.ClientLines.{answer_line, forgot_line, sent_line}
use Rattle.osc_text.specs.Contexts.{agreed_client, InContext, Told}
use Rattle.osc_text.specs.EntryLines.{bad_plain_line, not_done_line, replaced_line, restarted_line}
use Rattle.osc_text.specs.InputText.{InputText}
use Rattle.osc_text.specs.Inputs.{IsFirstBadLine}
use Rattle.osc_text.specs.ReplaceEvents.{OrReplace, SpellsAsking}
use Rattle.osc_text.specs.ReplaceEvents as lines
use Rattle.osc_text.specs.declared.asking.Asking.{Asking}

-- how many pending requests there is room for (own rule)
abbrev pub places : ℕ
places = 16

-- the room for each request: the length of its plain message plus 128 bytes (own rule)
abbrev pub request_room : List ℕ → ℕ
request_room plain = length plain + 128

-- a request with a plain message, and the line of its entry; a sealed request has the next number (RFC 8613, 7.2.1 and 8.1)
pub data RequestLine (h : History) (now : ℕ) (plain line : List ℕ) (k : History) : Type 0 where
  bad_plain : (fault : MessageFault) (place : ℕ) → HasFault plain fault place → GoesOn places h (Advance now) Advanced k
      → line ≡ bad_plain_line fault place → RequestLine h now plain line k
  sent : (p : Parts) (bytes : List ℕ) → IsDatagram p plain → GoesOn places h (Request now p (request_room plain)) (Sent bytes) k
      → line ≡ sent_line (next h) bytes → RequestLine h now plain line k
  refused : (p : Parts) (e : RequestError) → IsDatagram p plain → GoesOn places h (Request now p (request_room plain)) (NotSent e) k
      → line ≡ not_done_line (request_error_text e) → RequestLine h now plain line k

-- an event and the line of its entry, which is the client's answer (RFC 8613, 8.1 and 8.4)
abbrev pub EventLine : History → AskedEvent ℕ → List ℕ → History → Type 0
EventLine h (asked.Request now plain) line k = RequestLine h now plain line k
EventLine h (asked.Take now d) line k = (answer : Answer) × GoesOn places h (Datagram now d) (Took answer) k × (line ≡ answer_line answer)
EventLine h (asked.Forget token) line k = (was_pending : Bool) × GoesOn places h (Forget token) (Forgot was_pending) k × (line ≡ forgot_line was_pending)
EventLine h (asked.Restart first) line k = GoesOn places h (Restart first) Restarted k × (line ≡ restarted_line)

-- another context in the place of the client's, and the line of its entry; it is refused if and only if it has the Sender Key of the client's (RFC 8613, 3.3)
pub data ReplaceLine (h : History) (by : SecurityContext) (first : ℕ) (line : List ℕ) (k : History) : Type 0 where
  placed : ¬ HaveSameKey (context h) by → k ≡ replaced by first h → line ≡ replaced_line → ReplaceLine h by first line k
  refused : HaveSameKey (context h) by → k ≡ h → line ≡ not_done_line (codes "SameSender") → ReplaceLine h by first line k

-- a client of a run: its history, and the features that all contexts of the run take part in (own rule)
pub record AskingState : Type 0 where
  pub history : History
  pub features : Features

-- what a line asks of a client, and the line of the entry; another context has the features of the run (RFC 8613, 3.3, 8.1 and 8.4)
abbrev pub ClientLine : AskingState → OrReplace (AskedEvent ℕ) ℕ → List ℕ → AskingState → Type 0
ClientLine s (lines.Event event) line t = EventLine s.history event line t.history × (t.features ≡ s.features)
ClientLine s (lines.Replace by first) line t = ReplaceLine s.history (record by { features = s.features }) first line t.history × (t.features ≡ s.features)

-- a client that begins, with nothing pending (RFC 8613, 8.1)
abbrev pub asking_from : SecurityContext → Asking → AskingState
asking_from s asking = record { history = New s (number_of asking.next) asking.life_ms; features = s.features }

-- what `run` prints for a client: one line for each event of the input (RFC 8613, 8.1 and 8.4)
abbrev pub AskText : Agreed → Asking → List ℕ → Told
AskText g asking bytes = InContext g.params (InputText SpellsAsking ClientLine (asking_from (agreed_client g) asking) bytes)

-- the context is derived, and the line with this number, counted from 1, is the first that spells no event (own rule)
pub record HasBadAskedLine (g : Agreed) (bytes : List ℕ) (number : ℕ) : Type 0 where
  pub in_context : (e : ContextError) → ¬ RefusesParams g.params e
  pub first_bad : IsFirstBadLine SpellsAsking bytes number
