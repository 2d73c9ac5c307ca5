-- How the code is seen: places, each of which has something or is free. places is what is at each place.
use Rattle.std.specs.Prelude.{◌≡◌, ℕ, List, Bool, true, false, Option, Some, None, slice_get, set}

-- a place has something that passes (how the code is seen)
abbrev pub holds : {A : Type 0} → (A → Bool) → Option A → Bool
holds passes None = false
holds passes (Some x) = passes x

-- this is at this place (how the code is seen)
abbrev pub IsAt : {A : Type 0} → List (Option A) → ℕ → A → Type 0
IsAt places place x = slice_get places place ≡ Some (Some x)

-- nothing that is there passes (how the code is seen)
abbrev pub NonePasses : {A : Type 0} → (A → Bool) → List (Option A) → Type 0
NonePasses {A} passes places = (i : ℕ) (x : A) → IsAt places i x → passes x ≡ false

-- the place of something that passes, or none if nothing does (how the code is seen)
abbrev pub IsPlaceOf : {A : Type 0} → (A → Bool) → List (Option A) → Option ℕ → Type 0
IsPlaceOf passes places None = NonePasses passes places
IsPlaceOf {A} passes places (Some place) = (x : A) × IsAt places place x × (passes x ≡ true)

-- a free place, or none if none is (how the code is seen)
abbrev pub IsFreePlace : {A : Type 0} → List (Option A) → Option ℕ → Type 0
IsFreePlace places None = (i : ℕ) → slice_get places i ≡ Some None → ⊥
IsFreePlace places (Some place) = slice_get places place ≡ Some None

-- a place has this in place of that, and no other place is touched (how the code is seen)
pub record Puts {A : Type 0} (old new : List (Option A)) (place : ℕ) (before after : Option A) : Type 0 where
  pub there : slice_get old place ≡ Some before
  pub put : new ≡ set old place after
