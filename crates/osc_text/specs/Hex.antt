-- To be believed: which bytes a word of hex spells (RFC 4648, 8). word is a list of characters, c one of them.
use Rattle.std.specs.Prelude.{◌≡◌, ℕ, ◌+◌, ◌&&◌, nat_le, List, map, if◌then◌else◌}
use Rattle.hex.specs.Hex.{IsBytes, encode_lower}

-- a letter from A to F in lower case, and any other character as it is (own rule: both cases are read)
abbrev pub small : ℕ → ℕ
small c = if nat_le 65 c && nat_le c 70 then c + 32 else c

-- the word is two hex digits for each byte, the high one first, in either case (RFC 4648, 8)
abbrev pub SpellsBytes : List ℕ → List ℕ → Type 0
SpellsBytes word bytes = IsBytes bytes × (map small word ≡ encode_lower bytes)
