-- What a walk over the places of observers has seen, and what a change of one place leaves.
use Rattle.std.proofs.Common.{◌≡◌, ◌∙◌, sym, ap, refl, arith, length, ℕ, ◌+◌, ◌<◌, ◌≤◌, List, Some, set, inl, inr, get_or}
use Rattle.std.specs.Prelude.{Option, None, false, true, is_some, map, slice_get}
use Rattle.std.specs.List.{refill}
use Rattle.std.specs.Option.{option_map}
use Rattle.std.proofs.lemmas.Bool.{cases_eq}
use Rattle.std.proofs.lemmas.List.{length-map}
use Rattle.std.proofs.lemmas.Option.{slice_get_within}
use Rattle.std.proofs.lemmas.Slice.Eq.{bytes_eq-Decides}
use Rattle.osc_observers.specs.declared.watch.Watch.{Watch}
use Rattle.osc_observers.specs.Calls.{RegistersAt}
use Rattle.osc_observers.specs.Finding.{MayTake, number_of}
use Rattle.osc_message.specs.Slots.{IsAt}
use Rattle.osc_observers.specs.Table.{Ends, Stays, Table}
use Rattle.osc_observers.specs.Views.{place_of}
use Rattle.osc_observers.specs.Watching.{Watching, fresh, is_of}
use Rattle.osc_message.proofs.Walking.{one_of, puts, reads}

-- ---- what was seen from a place on

-- each place from this one on, before that one, is free
abbrev pub AreFree : List (Option Watch) → ℕ → ℕ → Type 0
AreFree xs first k = (i : ℕ) (o : Option Watching) → first ≤ i → i < k → slice_get (map place_of xs) i ≡ Some o → is_some o ≡ false

pub found_some : {X Y : Type 0} → (view : X → Y) (o : Option X) → is_some o ≡ true → (y : Y) × (option_map view o ≡ Some y)
found_some view None e = absurd (grind (arith, e))
found_some view (Some x) e = (view x, refl)

none_view : (o : Option Watch) → is_some o ≡ false → is_some (place_of o) ≡ false
none_view None e = refl
none_view (Some x) e = e

pub still_none : (xs : List (Option Watch)) (first k : ℕ) → AreFree xs first k → (i : ℕ) (y : Watching) → first ≤ i → i < k → IsAt (map place_of xs) i y → ⊥
still_none xs first k free i y from under at = let no : true ≡ false = free i (Some y) from under at in absurd (grind (arith, no))

pub still_free : (xs : List (Option Watch)) (first k : ℕ) (o : Option Watch) → k < length xs → o ≡ get_or xs k o → is_some o ≡ false → AreFree xs first k → AreFree xs first (k + 1)
still_free xs first k o less is none free i y from under there = elim (cases_eq i k) [
  | inl same ↦
      let found = sym there ∙ ap (slice_get (map place_of xs)) same ∙ reads place_of xs k o less is in
      ap (λ (p : Option Watching). is_some p) (one_of y (place_of o) found) ∙ none_view o none
  | inr other ↦ free i y from (omega (arith, under, other)) there
]

pub whole_from : (xs : List (Option Watch)) (first k : ℕ) → length xs ≤ k → AreFree xs first k → (i : ℕ) (y : Watching) → first ≤ i → IsAt (map place_of xs) i y → ⊥
whole_from xs first k all free i y from there =
    let within = slice_get_within (map place_of xs) i (Some y) there in
    let count = length-map xs place_of in
    still_none xs first k free i y from (omega (arith, all, within, count)) there

-- ---- what a change leaves

-- the table behind a change of one place
abbrev pub behind : List (Option Watch) → List (Option Watch) → ℕ → Option Watch → ℕ → Table
behind xs lent k z n = record { places = map place_of (refill (length xs) xs (set lent k z)); next_number = n }

pub ends : (xs lent : List (Option Watch)) (k n : ℕ) (z : Option Watch) (x : Watching) → lent ≡ xs → IsAt (map place_of xs) k x → place_of z ≡ None
    → Ends (record { places = map place_of xs; next_number = n }) (behind xs lent k z n) k x
ends xs lent k n z x same there is = record { puts = puts place_of xs lent k z (Some x) None same there is; next = refl }

pub stays : (xs lent : List (Option Watch)) (k n : ℕ) (z : Option Watch) (x y : Watching) → lent ≡ xs → IsAt (map place_of xs) k x → place_of z ≡ Some y
    → Stays (record { places = map place_of xs; next_number = n }) (behind xs lent k z n) k x y
stays xs lent k n z x y same there is = record { puts = puts place_of xs lent k z (Some x) (Some y) same there is; next = refl }

-- the number that was read is that of the observer that stands there
pub numbered : (o : Option Watching) (x : Watching) (n : ℕ) → o ≡ Some x → Some n ≡ number_of o → x.number ≡ n
numbered o x n is number = one_of x.number n (sym (number ∙ ap number_of is))

-- ---- the observer of an address and a token

pub from_of : (from token : List ℕ) (x : Watching) → is_of from token x ≡ true → x.from ≡ from
from_of from token x e = let d = bytes_eq-Decides x.from from in grind (arith, e, d)

pub token_of : (from token : List ℕ) (x : Watching) → is_of from token x ≡ true → x.token ≡ token
token_of from token x e = let d = bytes_eq-Decides x.token token in grind (arith, e, d)

pub not_of : (from token : List ℕ) (x : Watching) → is_of from token x ≡ false → x.from ≡ from → x.token ≡ token → ⊥
not_of from token x e of_from of_token =
    let d = bytes_eq-Decides x.from from in
    let k = bytes_eq-Decides x.token token in
    absurd (grind (arith, e, d, k, of_from, of_token))

pub registers : (xs lent : List (Option Watch)) (k n now : ℕ) (from token : List ℕ) (z : Option Watch) (before : Option Watching) → lent ≡ xs
    → slice_get (map place_of xs) k ≡ Some before → MayTake from token (map place_of xs) before → place_of z ≡ Some (fresh n from token now)
    → RegistersAt (record { places = map place_of xs; next_number = n }) (behind xs lent k z (n + 1)) from token now (record { number = n; place = k }) before
registers xs lent k n now from token z None same there none is =
    (record { puts = puts place_of xs lent k z None (Some (fresh n from token now)) same there is; number = refl; next = refl }, none)
registers xs lent k n now from token z (Some y) same there of is =
    let a = from_of from token y of in
    let b = token_of from token y of in
    let it : place_of z ≡ Some (fresh n y.from y.token now) =
    is ∙ ap (λ (f : List ℕ). Some (fresh n f token now)) (sym a) ∙ ap (λ (t : List ℕ). Some (fresh n y.from t now)) (sym b) in
    (a, b, record { puts = puts place_of xs lent k z (Some y) (Some (fresh n y.from y.token now)) same there it; number = refl; next = refl })
