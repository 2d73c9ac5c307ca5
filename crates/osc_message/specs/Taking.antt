-- To be believed: what is done about a datagram that came (RFC 7252, 4.2 to 4.5, 5.2 and 5.3.2). t is the layer, p what the datagram says.
use Rattle.std.specs.Prelude.{◌≡◌, ◌==◌, ◌/◌, ◌*◌, ◌+◌, ℕ, List, ◌∷◌, Bool, true, false, Option, Some, None, if◌then◌else◌, is_some}
use Rattle.osc_coap.specs.Datagram.{IsDatagram, Parts}
use Rattle.osc_coap.specs.declared.message.Kind.{Kind}
use Rattle.osc_coap.specs.declared.message.Kind.TheVariants as kinds
use Rattle.osc_message.specs.Arriving.{Came}
use Rattle.osc_message.specs.Calls.{Acknowledges, AwaitsBy, CallsFor, Polls, Resets}
use Rattle.osc_message.specs.HearingCalls.{AcksBy, Recalls}
use Rattle.osc_message.specs.Incoming.{empty, row}
use Rattle.osc_message.specs.Table.{Rests, Table}
use Rattle.osc_message.specs.declared.exchanges.Call.{Call}
use Rattle.osc_message.specs.declared.arrivals.Repeated.{Repeated}
use Rattle.osc_message.specs.declared.incoming.Incoming.{Incoming}
use Rattle.osc_message.specs.declared.incoming.Incoming.TheVariants as rows
use Rattle.osc_message.specs.Hearing.{is_due}
use Rattle.osc_message.specs.Slots.{NonePasses}
use Rattle.osc_message.specs.declared.exchanges.Polled.TheVariants as polled
use Rattle.osc_message.specs.declared.messages.Due.{Due}
use Rattle.osc_message.specs.declared.messages.Due.TheVariants as due
use Rattle.osc_message.specs.declared.messages.Heading.{Heading}
use Rattle.osc_message.specs.declared.messages.Taken.{Taken}
use Rattle.osc_message.specs.declared.messages.Taken.TheVariants as taken

-- the messages on their way, and those that came (RFC 7252, 4.2 to 4.5)
pub record Layer : Type 0 where
  pub sent : Table
  pub came : Came

-- the Message ID that a response acknowledges (RFC 7252, 5.2.1)
abbrev pub acked_at : Kind → ℕ → Option ℕ
acked_at kinds.Ack message_id = Some message_id
acked_at kind message_id = None

-- the Message ID that a message acknowledges (RFC 7252, 5.2.1)
abbrev pub acked_by : Parts → Option ℕ
acked_by p = acked_at p.kind p.message_id

-- a message of this Type gets an ACK: it is a CON (RFC 7252, 4.2)
abbrev pub is_con : Kind → Bool
is_con kinds.Con = true
is_con kind = false

-- what an ACK of a message needs: its Message ID, and whether it is a CON (RFC 7252, 3 and 4.2)
abbrev pub heading_of : Parts → Heading
heading_of p = record { message_id = p.message_id; confirmable = is_con p.kind }

-- the message of ours that one is for which is empty, and that one is for which isn't (RFC 7252, 4.2 and 5.3.2)
abbrev pub IsForBy : Bool → Table → List ℕ → Parts → Option Call → Type 0
IsForBy true t from p waits = CallsFor t from p.message_id waits
IsForBy false t from p waits = AwaitsBy t from p.token (acked_by p) waits

-- the message of ours that it is for: by its Message ID if it is empty, else by its token (RFC 7252, 4.2 and 5.3.2)
abbrev pub IsFor : Table → List ℕ → Parts → Option Call → Type 0
IsFor t from p waits = IsForBy (p.code == 0) t from p waits

-- what is done by the row that it is in (RFC 7252, 4.2 to 4.5)
abbrev pub TakesBy : Layer → Layer → List ℕ → Parts → Option Repeated → Option Call → Incoming → Taken → Type 0
TakesBy old new from p came waits rows.Again result = (r : Repeated) × (came ≡ Some r) × (result ≡ taken.Repeated r) × (new ≡ old)
TakesBy old new from p came waits rows.Request result = (result ≡ taken.Request (heading_of p)) × (new ≡ old)
TakesBy old new from p came waits rows.Response result = (call : Call) × (waits ≡ Some call) × (result ≡ taken.Response call (heading_of p)) × (new ≡ old)
TakesBy old new from p came waits rows.Acknowledged (taken.Acknowledged acked) = Acknowledges old.sent new.sent from p.message_id acked × (new.came ≡ old.came)
TakesBy old new from p came waits rows.Acknowledged result = ⊥
TakesBy old new from p came waits rows.Reset (taken.Reset call) = Resets old.sent new.sent from p.message_id (Some call) × (new.came ≡ old.came)
TakesBy old new from p came waits rows.Reset result = ⊥
TakesBy old new from p came waits rows.Reject (taken.Reject bytes) = IsDatagram (empty kinds.Rst p.message_id) bytes × (new ≡ old)
TakesBy old new from p came waits rows.Reject result = ⊥
TakesBy old new from p came waits rows.Ignore result = (result ≡ taken.Ignored) × (new ≡ old)

-- what is done about a message that came (RFC 7252, 4.2 to 4.5)
abbrev pub Takes : Layer → Layer → List ℕ → ℕ → Parts → Taken → Type 0
Takes old new from now p result = (came : Option Repeated) × Recalls old.came from p.message_id now came × (waits : Option Call) × IsFor old.sent from p waits
    × TakesBy old new from p came waits (row p.kind p.code (is_some came) (is_some waits)) result

-- what is no message gets an RST if it begins as a CON of version 1: then this is its Message ID (RFC 7252, 3 and 4.2; own rule)
abbrev pub unreadable : List ℕ → Option ℕ
unreadable (first ∷ code ∷ high ∷ low ∷ rest) = if first / 16 == 4 then Some (256 * high + low) else None
unreadable bytes = None

-- what is done about a datagram that is no message (RFC 7252, 4.2 to 4.5)
abbrev pub IsUnreadable : List ℕ → Taken → Type 0
IsUnreadable datagram (taken.Reject bytes) = (id : ℕ) × (unreadable datagram ≡ Some id) × IsDatagram (empty kinds.Rst id) bytes
IsUnreadable datagram result = (result ≡ taken.Ignored) × (unreadable datagram ≡ None)

-- what is done as time passes: a message is sent again or given up, or where nothing is to be done about one an ACK goes out by itself
-- (RFC 7252, 4.2 and 5.2.2)
abbrev pub PollsLayer : Layer → Layer → ℕ → Due → Type 0
PollsLayer old new now (due.Resend call) = Polls old.sent new.sent now (polled.Resend call) × (new.came ≡ old.came)
PollsLayer old new now (due.Failed call) = Polls old.sent new.sent now (polled.Failed call) × (new.came ≡ old.came)
PollsLayer old new now (due.Acknowledge arrived) = Polls old.sent new.sent now polled.Rest × AcksBy old.came new.came now (Some arrived)
PollsLayer old new now due.Nothing = Polls old.sent new.sent now polled.Rest × AcksBy old.came new.came now None

-- nothing is to be done now (RFC 7252, 4.2 to 4.5)
pub record RestsLayer (t : Layer) (now : ℕ) : Type 0 where
  pub sent : Rests t.sent.places now
  pub came : NonePasses (is_due now) t.came.places
