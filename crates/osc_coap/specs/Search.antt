-- To be believed: options found by their numbers (RFC 7252, 3.1 and 5.10). n is the number of an option,
-- entries are options in order.
use Rattle.std.specs.Prelude.{ℕ, ◌==◌, ◌||◌, Bool, false, List, [], ◌∷◌, Option, Some, None, if◌then◌else◌}
use Rattle.osc_coap.specs.OptionSpelling.{Entry}

-- one of the options has a number for which p holds (RFC 7252, 3.1)
abbrev pub has_number : (ℕ → Bool) → List Entry → Bool
has_number p [] = false
has_number p (entry ∷ entries) = p entry.0 || has_number p entries

-- the values of the options with number n, in order (RFC 7252, 3.1)
abbrev pub values_at : ℕ → List Entry → List (List ℕ)
values_at n [] = []
values_at n (entry ∷ entries) = if entry.0 == n then entry.1 ∷ values_at n entries else values_at n entries

-- the first of some values, if there is one (RFC 7252, 5.10.1)
abbrev pub first_of : List (List ℕ) → Option (List ℕ)
first_of [] = None
first_of (value ∷ values) = Some value
