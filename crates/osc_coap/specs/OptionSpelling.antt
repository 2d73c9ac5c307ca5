-- To be believed: how CoAP spells a list of options (RFC 7252, 3.1). d is the number of the option before, or
-- 0 at first. A nibble is one half of an option byte; the delta's is the high one. n is a delta or a value's
-- length. That a text holds only bytes is said where a text is whole: in IsDatagram, IsInner and the laws.
use Rattle.std.specs.Prelude.{◌≡◌, ℕ, ◌+◌, ◌-◌, ◌*◌, ◌<◌, ◌≤◌, nat_lt, if◌then◌else◌, All, List, [], ◌∷◌, ◌++◌, length}

-- an option: its number, and the bytes of its value (RFC 7252, 3.1)
abbrev pub Entry : Type 0
Entry = ℕ × List ℕ

-- each element is a byte, a number below 256 (RFC 7252, 3)
abbrev pub AreBytes : List ℕ → Type 0
AreBytes bytes = All (λ b. b < 256) bytes

-- a nibble and these extended bytes after the option byte stand for n (RFC 7252, 3.1)
abbrev pub Stands : ℕ → List ℕ → ℕ → Type 0
Stands nibble [] n = (nibble < 13) × (n ≡ nibble)
Stands nibble (x ∷ []) n = (nibble ≡ 13) × (n ≡ x + 13)
Stands nibble (x ∷ y ∷ []) n = (nibble ≡ 14) × (n ≡ 256 * x + y + 269)
Stands nibble (x ∷ y ∷ z ∷ more) n = ⊥

-- the bytes are an option with this delta and value: option byte, extended bytes, value (RFC 7252, 3.1)
pub record IsOption (delta : ℕ) (value bytes : List ℕ) : Type 0 where
  pub delta_nibble : ℕ
  pub length_nibble : ℕ
  pub delta_bytes : List ℕ
  pub length_bytes : List ℕ
  pub delta_is : Stands delta_nibble delta_bytes delta
  pub length_is : Stands length_nibble length_bytes (length value)
  pub whole : bytes ≡ (16 * delta_nibble + length_nibble) ∷ (delta_bytes ++ (length_bytes ++ value))

-- the bytes are an option with this delta and value, and then the tail (RFC 7252, 3.1)
abbrev pub StartsWithOption : ℕ → List ℕ → List ℕ → List ℕ → Type 0
StartsWithOption delta value tail bytes = (option : List ℕ) × IsOption delta value option × (bytes ≡ option ++ tail)

-- the bytes spell these options after number d; own rule: numbers end at 65,535 (RFC 7252, 3.1)
abbrev pub Spells : ℕ → List Entry → List ℕ → Type 0
Spells d [] bytes = bytes ≡ []
Spells d (entry ∷ entries) bytes = (d ≤ entry.0) × (entry.0 ≤ 65535) × (tail : List ℕ) × StartsWithOption (entry.0 - d) entry.1 tail bytes × Spells entry.0 entries tail

-- the number of the last option of the list, or d if the list is empty (RFC 7252, 3.1)
abbrev pub last_number : ℕ → List Entry → ℕ
last_number d [] = d
last_number d (entry ∷ entries) = last_number entry.0 entries

-- the options are in ascending order of number, from d to 65,535 (RFC 7252, 3.1)
abbrev pub Ascends : ℕ → List Entry → Type 0
Ascends d [] = Unit {0}
Ascends d (entry ∷ entries) = (d ≤ entry.0) × (entry.0 ≤ 65535) × Ascends entry.0 entries

-- the marker ff and then the payload, or no bytes if the payload is empty (RFC 7252, 3)
abbrev pub marked : List ℕ → List ℕ
marked [] = []
marked (x ∷ payload) = 255 ∷ x ∷ payload

-- how many extended bytes the delta or length n takes (RFC 7252, 3.1)
abbrev pub extended_length : ℕ → ℕ
extended_length n = if nat_lt n 13 then 0 else (if nat_lt n 269 then 1 else 2)

-- how many bytes an option takes, given its delta and its value's length (RFC 7252, 3.1)
abbrev pub option_length : ℕ → ℕ → ℕ
option_length delta value_length = 1 + extended_length delta + extended_length value_length + value_length

-- how many bytes the options after number d take together (RFC 7252, 3.1)
abbrev pub spelling_length : ℕ → List Entry → ℕ
spelling_length d [] = 0
spelling_length d (entry ∷ entries) = option_length (entry.0 - d) (length entry.1) + spelling_length entry.0 entries
