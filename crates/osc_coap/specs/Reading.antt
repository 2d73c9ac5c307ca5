-- How the code is seen: how options are read from left to right, for the views of what was read. Public clauses use OptionSpelling.antt,
-- Datagram.antt, Inner.antt and Fault.antt to say what a message or a fault is; what is read here is proved to be what is
-- spelled there. d is the number of the option before.
use Rattle.std.specs.Prelude.{◌≡◌, ℕ, zero, suc, ◌+◌, ◌*◌, ◌/◌, ◌%◌, List, [], ◌∷◌, length, take, drop, Option, Some, None, option_and_then, Result, Ok, Err, nat_lt, ◌==◌, ◌||◌, if◌then◌else◌}
use Rattle.osc_coap.specs.declared.format_error.Fault.{Fault}
use Rattle.osc_coap.specs.declared.format_error.Fault.TheVariants.{Nibble15, OptionCut, NumberTooLarge}
use Rattle.osc_coap.specs.OptionSpelling.{Entry, AreBytes}

infixl 10 ◌>>=◌
-- one reading step and then another, if both find something (own rule: how options are read)
abbrev pub ◌>>=◌ : {A B : Type 0} → Option A → (A → Option B) → Option B
o >>= f = option_and_then f o

-- the number that nibble 13 and one byte stand for, and what follows (RFC 7252, 3.1)
abbrev pub one_byte : List ℕ → Option (ℕ × List ℕ)
one_byte [] = None
one_byte (x ∷ rest) = Some (x + 13, rest)

-- the number that nibble 14 and two bytes stand for, and what follows (RFC 7252, 3.1)
abbrev pub two_bytes : List ℕ → Option (ℕ × List ℕ)
two_bytes [] = None
two_bytes (x ∷ []) = None
two_bytes (x ∷ y ∷ rest) = Some (256 * x + y + 269, rest)

-- the number that a nibble stands for, and what follows its extended bytes (RFC 7252, 3.1)
unfoldable pub number_at : ℕ → List ℕ → Option (ℕ × List ℕ)
number_at nibble bytes = if nat_lt nibble 13 then Some (nibble, bytes) else (if nibble == 13 then one_byte bytes else (if nibble == 14 then two_bytes bytes else None))

-- an option's delta, its value, and the bytes that follow the option (RFC 7252, 3.1)
pub record Pieced : Type 0 where
  pub delta : ℕ
  pub value : List ℕ
  pub rest : List ℕ

-- what follows an option byte with these nibbles (RFC 7252, 3.1)
unfoldable pub pieces_at : ℕ → ℕ → List ℕ → Option Pieced
pieces_at delta_nibble length_nibble bytes = do
  delta ← number_at delta_nibble bytes
  len ← number_at length_nibble delta.1
  if nat_lt (length len.1) len.0 then None else Some (record { delta = delta.0; value = take len.0 len.1; rest = drop len.0 len.1 })

-- an option's number, its value, and the bytes that follow the option (RFC 7252, 3.1)
pub record Taken : Type 0 where
  pub number : ℕ
  pub value : List ℕ
  pub rest : List ℕ

-- the option of these pieces after number d, or why there is none (RFC 7252, 3.1)
unfoldable pub numbered : ℕ → Option Pieced → Result Taken Fault
numbered d None = Err OptionCut
numbered d (Some c) = if nat_lt 65535 (d + c.delta) then Err NumberTooLarge else Ok (record { number = d + c.delta; value = c.value; rest = c.rest })

-- the option at the front of the bytes, after number d, or its fault (RFC 7252, 3.1)
unfoldable pub option_at : ℕ → List ℕ → Result Taken Fault
option_at d [] = Err OptionCut
option_at d (b ∷ bytes) = if (b / 16 == 15) || (b % 16 == 15) then Err Nibble15 else numbered d (pieces_at (b / 16) (b % 16) bytes)

-- what the code returns is what is read, seen through a view (how the code is seen)
abbrev pub Gives : {X Y : Type 0} → (X → Y) → Result X Fault → Result Y Fault → Type 0
Gives view (Ok x) read = read ≡ Ok (view x)
Gives view (Err e) read = read ≡ Err e

-- the options at the front of the bytes, and what ends them: a fault, the marker or nothing (RFC 7252, 3)
pub record Walk : Type 0 where
  pub options : List Entry
  pub rest : List ℕ
  pub fault : Option Fault

-- a walk with one more option at the front (RFC 7252, 3.1)
abbrev pub before : Entry → Walk → Walk
before entry walk = record { options = entry ∷ walk.options; rest = walk.rest; fault = walk.fault }

-- one option, and the walk that goes on after it (RFC 7252, 3.1)
abbrev pub step : List ℕ → (ℕ → List ℕ → Walk) → Result Taken Fault → Walk
step bytes go_on (Err fault) = record { options = []; rest = bytes; fault = Some fault }
step bytes go_on (Ok t) = before (t.number, t.value) (go_on t.number t.rest)

-- the walk over at most n options (RFC 7252, 3.1)
unfoldable pub walk_for : ℕ → ℕ → List ℕ → Walk
walk_for zero d bytes = record { options = []; rest = bytes; fault = None }
walk_for (suc n) d [] = record { options = []; rest = []; fault = None }
walk_for (suc n) d (b ∷ bytes) = if b == 255 then (record { options = []; rest = b ∷ bytes; fault = None }) else step (b ∷ bytes) (walk_for n) (option_at d (b ∷ bytes))

-- the walk over all options; each takes at least one byte, so a limit of length bytes is enough (RFC 7252, 3.1)
unfoldable pub walk : ℕ → List ℕ → Walk
walk d bytes = walk_for (length bytes) d bytes

-- the options at the front of the bytes, after number d (RFC 7252, 3.1)
abbrev pub options_in : ℕ → List ℕ → List Entry
options_in d bytes = (walk d bytes).options

-- the bytes are options up to their end, after number d (RFC 7252, 3.1)
abbrev pub IsSpelling : ℕ → List ℕ → Type 0
IsSpelling d bytes = (walk d bytes).rest ≡ []

-- the same, and each element is a byte (RFC 7252, 3.1)
pub record AreOptions (d : ℕ) (bytes : List ℕ) : Type 0 where
  pub are_bytes : AreBytes bytes
  pub spelling : IsSpelling d bytes
