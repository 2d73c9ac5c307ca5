-- How the code is seen: what a search through the places finds, and what is done at one place.
use Rattle.std.specs.Prelude.{◌≡◌, ◌==◌, ◌≤◌, ◌<◌, ℕ, List, Bool, true, Option, Some, None, slice_get}
use Rattle.std.specs.Option.{option_map}
use Rattle.osc_message.specs.Slots.{IsAt, IsFreePlace, NonePasses}
use Rattle.osc_observers.specs.Watching.{Watching, is_of, needs_con, noted}

-- the observer has this number (how the code is seen)
abbrev pub is_numbered : ℕ → Watching → Bool
is_numbered number x = x.number == number

-- the number of the observer at a place (how the code is seen)
abbrev pub number_of : Option Watching → Option ℕ
number_of = option_map (λ x. x.number)

-- whether the next notification to the observer at a place has to be a CON (how the code is seen)
abbrev pub needs_at : Option Watching → ℕ → Option Bool
needs_at None now = None
needs_at (Some x) now = Some (needs_con now x)

-- the place, a notification sent to its observer (how the code is seen)
abbrev pub noted_at : Option Watching → ℕ → Option ℕ → ℕ → Option Watching
noted_at None message_id call now = None
noted_at (Some x) message_id call now = Some (noted x message_id call now)

-- what is at the place of a registration: the observer of this address and token, or nothing where no place has that (how the code is seen)
abbrev pub MayTake : List ℕ → List ℕ → List (Option Watching) → Option Watching → Type 0
MayTake from token places None = NonePasses (is_of from token) places
MayTake from token places (Some x) = is_of from token x ≡ true

-- the place of a registration (how the code is seen)
abbrev pub IsPlaceFor : List ℕ → List ℕ → List (Option Watching) → Option ℕ → Type 0
IsPlaceFor from token places None = NonePasses (is_of from token) places × IsFreePlace places None
IsPlaceFor from token places (Some place) = (o : Option Watching) × (slice_get places place ≡ Some o) × MayTake from token places o

-- the place of the first observer from this place on (how the code is seen)
abbrev pub IsFirstFrom : List (Option Watching) → ℕ → Option ℕ → Type 0
IsFirstFrom places first None = (i : ℕ) (x : Watching) → first ≤ i → IsAt places i x → ⊥
IsFirstFrom places first (Some place) = (x : Watching) × IsAt places place x × (first ≤ place)
    × ((i : ℕ) (y : Watching) → first ≤ i → i < place → IsAt places i y → ⊥)
