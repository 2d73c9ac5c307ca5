-- To be believed: which number a word of digits says (own rule). word is a list of characters.
use Rattle.std.specs.Prelude.{◌≡◌, ℕ, ◌<◌, List, length, true}
use Rattle.std.specs.Str.{all_ascii_digits}
use Rattle.std.specs.Str.Parse.{digits_value}

-- the word is one or more decimal digits; leading zeros are allowed (own rule)
abbrev pub IsDigitWord : List ℕ → Type 0
IsDigitWord word = (0 < length word) × (all_ascii_digits word ≡ true)

-- the number that the word's digits say, the highest digit first (own rule)
abbrev pub number_said : List ℕ → ℕ
number_said word = digits_value 10 word
