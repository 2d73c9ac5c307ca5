-- For the proofs: how an input is read, one function for each reader of the code.
use Rattle.std.specs.Prelude.{◌≡◌, ℕ, ◌+◌, ◌^◌, ◌==◌, ◌&&◌, nat_lt, List, [], ◌∷◌, ◌++◌, length, codes, bytes_eq, Option, Some, None, Result, Ok, Err, if◌then◌else◌}
use Rattle.std.specs.Borrow.{Bor}
use Rattle.std.specs.Option.{option_and_then}
use Rattle.std.specs.Str.{all_ascii_digits}
use Rattle.hex.specs.Hex.{decode_of, decode_sized}
use Rattle.hex.specs.declared.error.FromHexError.{FromHexError}
use Rattle.osc_text.specs.Inputs.{SpellEvents}
use Rattle.osc_text.specs.Numbers.{number_said}
use Rattle.osc_text.specs.declared.fault.Fault.{Fault}
use Rattle.osc_text.specs.declared.fault.Fault.TheVariants.{Line, Memory}

-- one more byte in front of what was split (how the code is seen)
abbrev pub longer_front : ℕ → Option (List ℕ × List ℕ) → Option (List ℕ × List ℕ)
longer_front b None = None
longer_front b (Some p) = Some (b ∷ p.0, p.1)

-- the bytes before the first mark and the bytes after it, if there is one (how the code is seen)
unfoldable pub split_once : ℕ → List ℕ → Option (List ℕ × List ℕ)
split_once mark [] = None
split_once mark (b ∷ bytes) = if b == mark then Some ([], bytes) else longer_front b (split_once mark bytes)

-- the number that a word of digits says, if it is below a bound (how the code is seen)
unfoldable pub number_read : ℕ → List ℕ → Option ℕ
number_read bound word = if nat_lt 0 (length word) && (all_ascii_digits word && nat_lt (number_said word) bound) then Some (number_said word) else None

-- the bytes of a word of hex (how the code is seen)
abbrev pub hex_decoded : Result (List ℕ) FromHexError → Option (List ℕ)
hex_decoded (Ok bytes) = Some bytes
hex_decoded (Err e) = None

-- the bytes of a word of hex that isn't empty, or no bytes for a dash (how the code is seen)
unfoldable pub bytes_read : List ℕ → Option (List ℕ)
bytes_read word =
    if length word == 0 then None
    else if bytes_eq word (codes "-") then Some [] else hex_decoded (decode_of word)

-- a number and bytes, from what their words say (how the code is seen)
abbrev pub numbered_of : Option ℕ → Option (List ℕ) → Option (ℕ × List ℕ)
numbered_of (Some n) (Some bytes) = Some (n, bytes)
numbered_of n bytes = None

-- a number below 2 ^ 64 and bytes (how the code is seen)
unfoldable pub numbered_read : List ℕ → Option (ℕ × List ℕ)
numbered_read fields = option_and_then (λ w. numbered_of (number_read (2 ^ 64) w.0) (bytes_read w.1)) (split_once 32 fields)

-- the n bytes of a word of hex (how the code is seen)
unfoldable pub fixed_read : ℕ → List ℕ → Option (List ℕ)
fixed_read n word = hex_decoded (decode_sized word n)

-- one more byte in front of the first line (how the code is seen)
abbrev pub longer_line : ℕ → List (List ℕ) → List (List ℕ)
longer_line b [] = (b ∷ []) ∷ []
longer_line b (line ∷ lines) = (b ∷ line) ∷ lines

-- the lines of an input (how the code is seen)
unfoldable pub lines_of : List ℕ → List (List ℕ)
lines_of [] = []
lines_of (b ∷ bytes) = if b == 10 then [] ∷ lines_of bytes else longer_line b (lines_of bytes)

-- two slices, as lists (how the code is seen)
abbrev pub parts : Bor (List ℕ) × Bor (List ℕ) → List ℕ × List ℕ
parts p = (p.0.now, p.1.now)

-- the line spells no event (how the code is seen)
abbrev pub SpellsNone : {E : Type 0} → (List ℕ → E → Type 0) → List ℕ → Type 0
SpellsNone {E} spells line = (event : E) → spells line event → ⊥

-- the line spells what is seen of an event of the code, and the rest of the event is right (how the code is seen)
abbrev pub SpellsSeen : {E V : Type 0} → (List ℕ → E → Type 0) → (V → E) → (V → Type 0) → List ℕ → V → Type 0
SpellsSeen spells seen IsRight line event = spells line (seen event) × IsRight event

-- the first lines of the input were read as these events, and the line after them is bad (how the code is seen)
pub record StopsReading {V : Type 0} (reads : List ℕ → V → Type 0) (IsBad : List ℕ → Type 0) (input : List ℕ) (number : ℕ) : Type 0 where
  pub good : List (List ℕ)
  pub all : List V
  pub bad : List ℕ
  pub rest : List (List ℕ)
  pub lines : lines_of input ≡ good ++ bad ∷ rest
  pub read : SpellEvents reads good all
  pub is_bad : IsBad bad
  pub counted : number ≡ length good + 1

-- why no events are read: a bad line, or a lack of memory (how the code is seen)
abbrev pub Misreads : {V : Type 0} → (List ℕ → V → Type 0) → (List ℕ → Type 0) → List ℕ → Fault → Type 0
Misreads reads IsBad input (Line number) = StopsReading reads IsBad input number
Misreads reads IsBad input Memory = Unit {0}
Misreads reads IsBad input fault = ⊥
