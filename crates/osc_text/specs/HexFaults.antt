-- To be believed: why a word doesn't spell bytes in hex (RFC 4648, 8). word is a list of bytes, c one of them.
use Rattle.std.specs.Prelude.{◌≡◌, ℕ, ◌%◌, Bool, not, List, length, Some, None}
use Rattle.std.specs.List.{position}
use Rattle.hex.specs.Hex.{is_hex_digit}
use Rattle.osc_text.specs.Hex.{SpellsBytes}
use Rattle.osc_text.specs.declared.hex_word.HexError.{HexError}
use Rattle.osc_text.specs.declared.hex_word.HexError.TheVariants.{NotDigit, OddLength, Memory}

-- the byte isn't a hex digit, in either case (RFC 4648, 8)
abbrev pub is_no_digit : ℕ → Bool
is_no_digit c = not (is_hex_digit c)

-- the word doesn't spell bytes (RFC 4648, 8)
abbrev pub SpellsNone : List ℕ → Type 0
SpellsNone word = (bytes : List ℕ) → SpellsBytes word bytes → ⊥

-- the word doesn't spell bytes: this is its first byte that isn't a digit, or it is an odd number of digits; a lack of memory says nothing about the word (own rule: the first fault is named)
abbrev pub IsWhyNotHex : List ℕ → HexError → Type 0
IsWhyNotHex word (NotDigit place) = SpellsNone word × (position is_no_digit word ≡ Some place)
IsWhyNotHex word OddLength = SpellsNone word × (position is_no_digit word ≡ None) × (length word % 2 ≡ 1)
IsWhyNotHex word Memory = Unit {0}
