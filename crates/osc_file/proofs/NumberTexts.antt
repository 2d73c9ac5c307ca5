-- What std prints of a number, in the words of a number's text.
use Rattle.std.proofs.Common.{◌≡◌, ℕ, ◌<◌, ◌^◌, List, [], ◌∷◌, ◌++◌}
use Rattle.std.specs.Prelude.{decimal}
use Rattle.std.proofs.lemmas.Fmt.{decimal_is_IsNumeral}
use Rattle.osc_file.specs.NumberText.{Spells}

-- a number's decimal digits and a newline spell it
pub decimal_spells : (n : ℕ) (text : List ℕ) → n < 2 ^ 64 → text ≡ decimal n ++ 10 ∷ [] → Spells n text
decimal_spells n text small e =
    let numeral = decimal_is_IsNumeral n small in
    record { digits = decimal n; numeral = numeral.0; value = numeral.1; whole = e }
