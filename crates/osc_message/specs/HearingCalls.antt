-- How the code is seen: what each call of a table of messages that came does.
use Rattle.std.specs.Prelude.{◌≡◌, ◌≢◌, ◌^◌, ◌-◌, ℕ, List, Bool, true, false, Option, Some, None, codes}
use Rattle.osc_message.specs.Arriving.{Came, Notes, Stays}
use Rattle.osc_message.specs.Hearing.{Heard, acknowledged, again_of, answered, is_done, is_due, is_same, way_of}
use Rattle.osc_message.specs.HearingFinding.{IsNextPlace, IsUnusedPlace}
use Rattle.osc_message.specs.Slots.{IsAt, IsFreePlace, NonePasses}
use Rattle.osc_message.specs.declared.arrival.Stage.{Stage}
use Rattle.osc_message.specs.declared.arrival.Stage.TheVariants.{Waiting, Done}
use Rattle.osc_message.specs.declared.arrival.Way.{Way}
use Rattle.osc_message.specs.declared.arrivals.Arrived.{Arrived}
use Rattle.osc_message.specs.declared.arrivals.Incomer.{Incomer}
use Rattle.osc_message.specs.declared.arrivals.NoteError.{NoteError}
use Rattle.osc_message.specs.declared.arrivals.NoteError.TheVariants.{Full, NumbersExhausted}
use Rattle.osc_message.specs.declared.arrivals.Repeated.{Repeated}

-- how a refusal prints (own rule)
abbrev pub note_error_text : NoteError → List ℕ
note_error_text Full = codes "Full"
note_error_text NumbersExhausted = codes "NumbersExhausted"

-- what a message gets that came before (RFC 7252, 4.5)
abbrev pub Recalls : Came → List ℕ → ℕ → ℕ → Option Repeated → Type 0
Recalls t from message_id now None = NonePasses (is_same from message_id now) t.places
Recalls t from message_id now (Some r) = (x : Heard) × IsAt t.places r.place x × (is_same from message_id now x ≡ true) × (r.again ≡ again_of x)

-- what was sent for a message that comes now (how the code is seen)
abbrev pub first_stage_of : Bool → Stage
first_stage_of true = Waiting
first_stage_of false = Done

-- a message as it is when it came (how the code is seen)
abbrev pub new_one : Incomer → ℕ → ℕ → Heard
new_one m number now = record { number = number; from = m.from.items; message_id = m.message_id; confirmable = m.confirmable; moment = now; stage = first_stage_of m.awaits_answer }

-- a message is kept in mind: at a free place, or in the place of the one for which all was sent and that came first (own rule)
abbrev pub NotesBy : Came → Came → Incomer → ℕ → Arrived → Type 0
NotesBy old new m now a = (before : Option Heard) × Notes old new a.place before (new_one m a.number now) × IsNextPlace old.places before

-- no place can be used anew (how the code is seen)
abbrev pub HasNoPlace : Came → Type 0
HasNoPlace t = IsFreePlace t.places None × NonePasses is_done t.places

-- the first reason for which a message can't be kept in mind: no place can be used anew; no number is left (own rule: the order)
abbrev pub IsFirstReason : Came → NoteError → Type 0
IsFirstReason t Full = HasNoPlace t
IsFirstReason t NumbersExhausted = (HasNoPlace t → ⊥) × (t.next_number ≡ 2 ^ 64 - 1)

-- a message can be kept in mind: this is the next place, and a number is left (how the code is seen)
abbrev pub MayNote : Came → ℕ → Type 0
MayNote t place = IsUnusedPlace t.places (Some place) × (t.next_number ≢ 2 ^ 64 - 1)

-- this message is in mind (how the code is seen)
abbrev pub IsInMind : Came → Arrived → Heard → Type 0
IsInMind t a x = IsAt t.places a.place x × (x.number ≡ a.number)

-- how the answer to a message is sent, where it is in mind; none where all was sent for it, or where it isn't in mind (RFC 7252, 5.2)
abbrev pub WayBy : Came → Arrived → Option Way → Type 0
WayBy t a None = (x : Heard) → IsInMind t a x → way_of x ≡ None
WayBy t a (Some way) = (x : Heard) × IsInMind t a x × (way_of x ≡ Some way)

-- what an answer does: it is noted once, where its message is in mind (RFC 7252, 5.2)
abbrev pub AnswersBy : Came → Came → Arrived → Option Way → Type 0
AnswersBy old new a None = (new ≡ old) × ((x : Heard) → IsInMind old a x → way_of x ≡ None)
AnswersBy old new a (Some way) = (x : Heard) × IsInMind old a x × (way_of x ≡ Some way) × Stays old new a.place x (answered x)

-- an ACK goes out by itself, if one is due (RFC 7252, 5.2.2)
abbrev pub AcksBy : Came → Came → ℕ → Option Arrived → Type 0
AcksBy old new now None = (new ≡ old) × NonePasses (is_due now) old.places
AcksBy old new now (Some a) = (x : Heard) × (is_due now x ≡ true) × (x.number ≡ a.number) × Stays old new a.place x (acknowledged x)
