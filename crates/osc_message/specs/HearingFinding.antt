-- How the code is seen: what a search through the messages that came finds, and what is done at one place.
use Rattle.std.specs.Prelude.{◌≡◌, ◌==◌, ◌≤◌, ℕ, List, Bool, true, Option, Some, None, nat_le, slice_get, if◌then◌else◌}
use Rattle.osc_message.specs.Hearing.{Heard, acknowledged, again_of, answered, is_done, way_of}
use Rattle.osc_message.specs.Slots.{IsAt, IsFreePlace, NonePasses}
use Rattle.osc_message.specs.declared.arrival.Again.{Again}
use Rattle.osc_message.specs.declared.arrival.Again.TheVariants.{Nothing}
use Rattle.osc_message.specs.declared.arrival.Way.{Way}
use Rattle.osc_message.specs.declared.heard.Oldest.{Oldest}

-- the message has this number (how the code is seen)
abbrev pub is_numbered : ℕ → Heard → Bool
is_numbered number x = x.number == number

-- the number of the message at a place, if all was sent for it (how the code is seen)
abbrev pub done_number : Option Heard → Option ℕ
done_number None = None
done_number (Some x) = if is_done x then Some x.number else None

-- the older one of what was found and what is at a place (how the code is seen)
abbrev pub older_by : Option Oldest → Option ℕ → ℕ → Option Oldest
older_by oldest None place = oldest
older_by None (Some number) place = Some (record { place = place; number = number })
older_by (Some found) (Some number) place = if nat_le found.number number then Some found else Some (record { place = place; number = number })

-- the same, of the message that is at the place (how the code is seen)
abbrev pub older_of : Option Oldest → Option Heard → ℕ → Option Oldest
older_of oldest at place = older_by oldest (done_number at) place

-- the place of the message for which all was sent and that came first (how the code is seen)
abbrev pub IsOldestDone : List (Option Heard) → Option ℕ → Type 0
IsOldestDone places None = NonePasses is_done places
IsOldestDone places (Some place) = (x : Heard) × IsAt places place x × (is_done x ≡ true)
    × ((i : ℕ) (y : Heard) → IsAt places i y → is_done y ≡ true → x.number ≤ y.number)

-- what is at the next place: nothing, or where no place is free the message for which all was sent and that came first (how the code is seen)
abbrev pub IsNextPlace : List (Option Heard) → Option Heard → Type 0
IsNextPlace places None = Unit {0}
IsNextPlace places (Some x) = IsFreePlace places None × (is_done x ≡ true) × ((i : ℕ) (y : Heard) → IsAt places i y → is_done y ≡ true → x.number ≤ y.number)

-- the place of the next message (how the code is seen)
abbrev pub IsUnusedPlace : List (Option Heard) → Option ℕ → Type 0
IsUnusedPlace places None = IsFreePlace places None × NonePasses is_done places
IsUnusedPlace places (Some place) = (o : Option Heard) × (slice_get places place ≡ Some o) × IsNextPlace places o

-- what the message at a place gets when it comes again (how the code is seen)
abbrev pub RecallsAt : Option Heard → Again → Type 0
RecallsAt None again = again ≡ Nothing
RecallsAt (Some x) again = again ≡ again_of x

-- how the answer to the message at a place is sent (how the code is seen)
abbrev pub way_there : Option Heard → Option Way
way_there None = None
way_there (Some x) = way_of x

-- what an answer does to a place, and how it is sent (how the code is seen)
abbrev pub AnswersAt : Option Heard → Option Heard → Option Way → Type 0
AnswersAt None new way = (new ≡ None) × (way ≡ None)
AnswersAt (Some x) new None = (new ≡ Some x) × (way_of x ≡ None)
AnswersAt (Some x) new (Some way) = (new ≡ Some (answered x)) × (way_of x ≡ Some way)

-- what an ACK that goes out by itself does to a place (how the code is seen)
abbrev pub AcksAt : Option Heard → Option Heard → Option ℕ → Type 0
AcksAt None new number = (new ≡ None) × (number ≡ None)
AcksAt (Some x) new number = (new ≡ Some (acknowledged x)) × (number ≡ Some x.number)
