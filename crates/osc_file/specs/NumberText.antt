-- To be believed: the text of a number in a file (own rule).
use Rattle.std.specs.Prelude.{◌≡◌, ℕ, List, [], ◌∷◌, ◌++◌}
use Rattle.std.specs.Str.Parse.{IsNumeral, digits_value}

-- one or more decimal digits that write the number, and a newline (own rule)
pub record Spells (number : ℕ) (text : List ℕ) : Type 0 where
  pub digits : List ℕ
  pub numeral : IsNumeral 10 digits
  pub value : digits_value 10 digits ≡ number
  pub whole : text ≡ digits ++ 10 ∷ []
