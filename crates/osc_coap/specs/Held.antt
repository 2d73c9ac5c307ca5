-- How the code is seen: what a writer's fields say about what it holds, and about an option or a payload.
use Rattle.std.specs.Prelude.{◌≡◌, ◌≢◌, ℕ, ◌+◌, ◌-◌, ◌<◌, ◌≤◌, ◌⊎◌, min, List, [], take, drop, length}
use Rattle.osc_coap.specs.declared.writer.Writer.{Writer}
use Rattle.osc_coap.specs.declared.writer.Stage.{Stage}
use Rattle.osc_coap.specs.declared.writer.Stage.TheVariants.{Alone, Open, Closed}
use Rattle.osc_coap.specs.declared.write_error.WriteError.{WriteError}
use Rattle.osc_coap.specs.declared.write_error.WriteError.TheVariants.{EmptyWithRest, Order, ValueTooLong, NoRoom}
use Rattle.osc_coap.specs.OptionSpelling.{last_number, option_length}
use Rattle.osc_coap.specs.Writing.{Draft, IsEmptyMessage, options_of, payload_of, length_of}
use Rattle.osc_coap.specs.Drafts.{IsDraft}

-- what a writer can take next, given what it has written (RFC 7252, 3 and 4.1)
abbrev pub IsAt : Stage → Draft → Type 0
IsAt Alone draft = IsEmptyMessage draft × (payload_of draft ≡ [])
IsAt Open draft = (¬ IsEmptyMessage draft) × (payload_of draft ≡ [])
IsAt Closed draft = (¬ IsEmptyMessage draft) × (payload_of draft ≢ [])

-- the draft is at the front of the buffer, and the bytes after it are those of old (how the code is seen)
pub record IsHeld (w : Writer) (draft : Draft) (old : List ℕ) : Type 0 where
  pub written : IsDraft draft (take w.len w.buf.now)
  pub size : w.len ≡ length_of draft
  pub same_room : length w.buf.now ≡ length old
  pub behind : drop w.len w.buf.now ≡ drop w.len old
  pub number : w.number ≡ last_number 0 (options_of draft)
  pub stage : IsAt w.stage draft

-- the most bytes that a writer may fill (own rule)
abbrev pub limit_of : Writer → ℕ
limit_of w = min (length w.buf.now) 65535

-- a writer takes an option with this number and length (how the code is seen)
pub record TakesNow (w : Writer) (number value_length : ℕ) : Type 0 where
  pub stage : w.stage ≡ Open
  pub order : w.number ≤ number
  pub short : value_length ≤ 65804
  pub room : w.len + option_length (number - w.number) value_length ≤ limit_of w

-- why a writer doesn't take an option with this number and length (how the code is seen)
abbrev pub RefusesOptionNow : Writer → ℕ → ℕ → WriteError → Type 0
RefusesOptionNow w number value_length EmptyWithRest = w.stage ≡ Alone
RefusesOptionNow w number value_length Order = (w.stage ≡ Closed) ⊎ ((w.stage ≡ Open) × (number < w.number))
RefusesOptionNow w number value_length ValueTooLong = (w.stage ≡ Open) × (w.number ≤ number) × (65804 < value_length)
RefusesOptionNow w number value_length NoRoom = (w.stage ≡ Open) × (w.number ≤ number) × (value_length ≤ 65804) × (limit_of w < w.len + option_length (number - w.number) value_length)

-- why a writer doesn't take a payload of this length (how the code is seen)
abbrev pub RefusesPayloadNow : Writer → ℕ → WriteError → Type 0
RefusesPayloadNow w payload_length EmptyWithRest = w.stage ≡ Alone
RefusesPayloadNow w payload_length Order = w.stage ≡ Closed
RefusesPayloadNow w payload_length ValueTooLong = ⊥
RefusesPayloadNow w payload_length NoRoom = (w.stage ≡ Open) × (limit_of w < w.len + (1 + payload_length))
