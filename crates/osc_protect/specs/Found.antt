-- For the proofs: what a search for options found.
use Rattle.std.specs.Prelude.{◌≡◌, ◌≤◌, ℕ, Bool, List, [], ◌∷◌, length, Option, Some, None, if◌then◌else◌}
use Rattle.osc_coap.specs.OptionSpelling.{Entry}
use Rattle.osc_coap.specs.Search.{first_of}
use Rattle.osc_protect.specs.declared.option_search.Found.{Found}
use Rattle.osc_protect.specs.declared.option_search.Found.TheVariants.{Nothing, One, More}

-- how many of the values come before the rest, and which value if there is exactly one (how the code is seen)
abbrev pub FindsBefore : Found → List (List ℕ) → List (List ℕ) → Type 0
FindsBefore Nothing rest values = values ≡ rest
FindsBefore (One value) rest values = values ≡ value.now ∷ rest
FindsBefore More rest values = 2 ≤ length values

-- how many values there are, and which value if there is exactly one (how the code is seen)
abbrev pub Finds : Found → List (List ℕ) → Type 0
Finds found values = FindsBefore found [] values

-- the first value if it is already known, else the first of the rest (how the code is seen)
abbrev pub first_or : Option (List ℕ) → List (List ℕ) → Option (List ℕ)
first_or None rest = first_of rest
first_or (Some value) rest = Some value

-- the number of the first option that has such a number, if there is one (RFC 7252, 3.1)
abbrev pub first_number : (ℕ → Bool) → List Entry → Option ℕ
first_number p [] = None
first_number p (entry ∷ entries) = if p entry.0 then Some entry.0 else first_number p entries
