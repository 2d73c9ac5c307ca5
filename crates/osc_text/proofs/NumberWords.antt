-- The words that are read as numbers are those of digits.
use Rattle.std.proofs.Common.{◌≡◌, ◌≢◌, ℕ, ◌<◌, ◌≤◌, ◌^◌, List, [], ◌∷◌, length, get_or, true, Option, Some, None, option_map, IsSome, IfSome, IfNone, Result, Ok, Err, refl, subst, ◌∙◌, arith}
use Rattle.std.specs.Option.{SomeIff}
use Rattle.std.specs.Result.{OkIff}
use Rattle.std.specs.Str.{all_ascii_digits}
use Rattle.std.specs.Str.Parse.{ParsesUnsigned, digits_value}
use Rattle.std.proofs.lemmas.Str.Parse.{IsNumeralModel, numerals_by_value, parse_plain, tells_all_ascii_digits}
use Rattle.osc_context.specs.Views.{number_of}
use Rattle.osc_context.specs.declared.partial_iv.Piv.{Piv}
use Rattle.osc_text.specs.Numbers.{IsDigitWord, number_said}

-- digits and their number, as std's lemmas have them
own : IsNumeralModel (λ ds. all_ascii_digits ds ≡ true) (digits_value 10)
own = numerals_by_value _ tells_all_ascii_digits

-- what a word with no plus in front is parsed as
parsed : {E : Type 0} (word : List ℕ) (r : Result ℕ E) → ParsesUnsigned 64 10 word r → get_or word 0 0 ≢ 43
    → OkIff r ((all_ascii_digits word ≡ true) × (0 < length word) × (digits_value 10 word < 2 ^ 64)) (digits_value 10 word)
parsed word r h first = parse_plain own 64 word r h first

-- a word that begins with a plus is not of digits
pub plus_first : (word : List ℕ) → get_or word 0 0 ≡ 43 → IsDigitWord word → ⊥
plus_first [] first h = absurd (let some = h.0 in omega (arith, some))
plus_first (c ∷ cs) first h = let digits = h.1 in grind (arith, first, digits)

-- the number is one of a message where it is below 2 ^ 40
pub in_range : (word : List ℕ) (n : ℕ) (o : Option Piv) → IsDigitWord word → n ≡ number_said word → IfSome o (λ piv. number_of piv ≡ n) → (IsSome o → n < 2 ^ 40) → IfNone o (2 ^ 40 ≤ n)
    → SomeIff (option_map number_of o) (IsDigitWord word × (number_said word < 2 ^ 40)) (number_said word)
in_range word n (Some piv) digits same made small large = let lt = small refl in ((digits, omega (arith, lt, same)), made ∙ same)
in_range word n None digits same made small large = λ d. let lt = d.1 in omega (arith, lt, large, same)

-- the number that was read is that of the word's digits
pub decimal_read : {E : Type 0} (word : List ℕ) (r : Result ℕ E) (n : ℕ) → r ≡ Ok n → ParsesUnsigned 64 10 word r → get_or word 0 0 ≢ 43
    → (IsDigitWord word × (number_said word < 2 ^ 64)) × (n ≡ number_said word)
decimal_read {E = E} word r n is h first =
    let q = subst (λ (x : Result ℕ E). OkIff x ((all_ascii_digits word ≡ true) × (0 < length word) × (digits_value 10 word < 2 ^ 64)) (digits_value 10 word)) is (parsed word r h first) in
    (((q.0.1, q.0.0), q.0.2), q.1)

-- what wasn't read is no word of digits, or its number is larger
pub no_decimal : {E : Type 0} (word : List ℕ) (r : Result ℕ E) (e : E) → r ≡ Err e → ParsesUnsigned 64 10 word r → get_or word 0 0 ≢ 43 → IsDigitWord word × (number_said word < 2 ^ 64) → ⊥
no_decimal {E = E} word r e is h first d =
    let q = subst (λ (x : Result ℕ E). OkIff x ((all_ascii_digits word ≡ true) × (0 < length word) × (digits_value 10 word < 2 ^ 64)) (digits_value 10 word)) is (parsed word r h first) in
    q (d.0.1, d.0.0, d.1)
