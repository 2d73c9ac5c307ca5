-- To be believed: which message C asks for, and why it isn't written, in the order in which the reasons are checked (RFC 7252, 3). kind is the number
-- of a kind, p the message, entries are its options, room is the length of the buffer.
use Rattle.std.specs.Prelude.{◌≡◌, ℕ, ◌+◌, ◌<◌, ◌≤◌, ◌==◌, if◌then◌else◌, All, List, [], length, map, take}
use Rattle.osc_coap.specs.declared.message.Kind.{Kind}
use Rattle.osc_coap.specs.declared.message.Kind.TheVariants.{Con, Non, Ack, Rst}
use Rattle.osc_coap.specs.Datagram.{Parts, datagram_length}
use Rattle.osc_coap.specs.OptionSpelling.{Ascends, Entry}
use Rattle.osc_coap.specs.Writing.{HasRoom}
use Rattle.osc_c.specs.Opened.{option_in}
use Rattle.osc_c.specs.declared.opened_view.OptionView.{OptionView}
use Rattle.osc_status.specs.declared.status.Status.{Status}
use Rattle.osc_status.specs.declared.status.Status.TheVariants.{BadNumber, TokenLength, EmptyWithRest, OptionOrder, ValueTooLong, NoRoom}

-- the kind that has this number; own rule: also a reset for each number above 3, with which nothing is written (RFC 7252, 3)
abbrev pub kind_at : ℕ → Kind
kind_at n = if n == 0 then Con else (if n == 1 then Non else (if n == 2 then Ack else Rst))

-- the message of these parts, with its options as C passes them in (RFC 7252, 3)
abbrev pub message_of_kind : Kind → ℕ → ℕ → List ℕ → List OptionView → List ℕ → Parts
message_of_kind kind code message_id token options payload = record { kind = kind; code = code; message_id = message_id; token = token; options = map option_in options; payload = payload }

-- the message that C asks for, by the number of its kind (RFC 7252, 3)
abbrev pub message_asked : ℕ → ℕ → ℕ → List ℕ → List OptionView → List ℕ → Parts
message_asked kind code message_id token options payload = message_of_kind (kind_at kind) code message_id token options payload

-- the message is its header alone if its code is 0.00 (RFC 7252, 4.1)
abbrev pub IsAloneWhereEmpty : Parts → Type 0
IsAloneWhereEmpty p = p.code ≡ 0 → (p.token ≡ []) × (p.options ≡ []) × (p.payload ≡ [])

-- an option can encode the length of each of the values (RFC 7252, 3.1)
abbrev pub HaveLengths : List Entry → Type 0
HaveLengths entries = All (λ entry. length entry.1 ≤ 65804) entries

-- the first n options are good, and with one more they aren't (own rule)
pub record IsFirstBad (AreGood : List Entry → Type 0) (entries : List Entry) (n : ℕ) : Type 0 where
  pub within : n < length entries
  pub before : AreGood (take n entries)
  pub bad : AreGood (take (n + 1) entries) → ⊥

-- this status, and a detail of 0 (own rule)
abbrev pub Says : Status → Status → ℕ → Type 0
Says name status detail = (status ≡ name) × (detail ≡ 0)

-- this status, and the index of the first bad option (own rule)
abbrev pub SaysWhich : Status → (List Entry → Type 0) → List Entry → Status → ℕ → Type 0
SaysWhich name AreGood entries status detail = (status ≡ name) × IsFirstBad AreGood entries detail

-- what is refused if this doesn't hold, and otherwise what is refused further down (own rule)
pub data Unless (Holds : Type 0) (Refuses Further : Status → ℕ → Type 0) (status : Status) (detail : ℕ) : Type 0 where
  here : (Holds → ⊥) → Refuses status detail → Unless Holds Refuses Further status detail
  further : Holds → Further status detail → Unless Holds Refuses Further status detail

-- why a message isn't written, with its detail (RFC 7252, 3, 3.1 and 4.1; own rules: the order, and at most 65,535 bytes)
abbrev pub RefusesWriting : ℕ → Parts → ℕ → Status → ℕ → Type 0
RefusesWriting kind p room = Unless (kind ≤ 3) (Says BadNumber)
    (Unless (length p.token ≤ 8) (Says TokenLength)
    (Unless (IsAloneWhereEmpty p) (Says EmptyWithRest)
    (Unless (Ascends 0 p.options) (SaysWhich OptionOrder (Ascends 0) p.options)
    (Unless (HaveLengths p.options) (SaysWhich ValueTooLong HaveLengths p.options)
    (Unless (HasRoom room (datagram_length p)) (Says NoRoom) (λ status detail. ⊥))))))
