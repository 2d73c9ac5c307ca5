-- What a walk over places has seen, and what a change of one place leaves. xs are the places of the code, lent a slice of them, and view says how a
-- place is seen.
use Rattle.std.proofs.Common.{zero, suc, ◌≡◌, ◌≢◌, ◌⊎◌, ◌∙◌, ◌∷◌, sym, ap, refl, arith, length, ℕ, ◌+◌, ◌<◌, ◌≤◌, List, Some, inl, inr, get_or, set, take, drop, append-nil, ◌++◌}
use Rattle.std.specs.Prelude.{Bool, ◌==◌, Option, None, false, is_some, map, replicate, slice_get, true}
use Rattle.std.specs.List.{refill}
use Rattle.std.specs.Option.{option_map}
use Rattle.std.proofs.lemmas.Bool.{cases_eq}
use Rattle.std.proofs.lemmas.Bool.Decides.{nat_tests}
use Rattle.std.proofs.lemmas.List.{drop_all, get_or-replicate, get_or-set_other, get_or-set_same, length-map, length-replicate, length-set, map-set, take_all}
use Rattle.std.proofs.lemmas.Option.{get_or_from_slice_get, slice_get-get_or, slice_get-map, slice_get_read, slice_get_within}
use Rattle.osc_message.specs.Slots.{IsAt, NonePasses, Puts, holds}

pub one_of : {Y : Type 0} → (a b : Y) → Some a ≡ Some b → a ≡ b
one_of a b e = cc

pub no_some : {Y : Type 0} → (a : Y) → None ≡ Some a → ⊥
no_some a e = cc

-- ---- what was seen

pub reads : {X Y : Type 0} → (view : X → Y) (xs : List X) (k : ℕ) (x : X) → k < length xs → x ≡ get_or xs k x → slice_get (map view xs) k ≡ Some (view x)
reads view xs k x less is = slice_get-map view xs k ∙ ap (option_map view) (slice_get_read xs (length xs) k x refl less is)

pub still : {X Y A : Type 0} → (view : X → Y) (xs : List X) (f : Y → A) (v : A) (k : ℕ) (x : X) → k < length xs → x ≡ get_or xs k x → f (view x) ≡ v
    → ((i : ℕ) (y : Y) → i < k → slice_get (map view xs) i ≡ Some y → f y ≡ v)
    → (i : ℕ) (y : Y) → i < k + 1 → slice_get (map view xs) i ≡ Some y → f y ≡ v
still view xs f v k x less is at before i y under there = elim (cases_eq i k) [
  | inl same ↦
      let found = sym there ∙ ap (slice_get (map view xs)) same ∙ reads view xs k x less is in
      ap f (one_of y (view x) found) ∙ at
  | inr other ↦ before i y (omega (arith, under, other)) there
]

pub whole : {X Y A : Type 0} → (view : X → Y) (xs : List X) (f : Y → A) (v : A) (k : ℕ) → length xs ≤ k
    → ((i : ℕ) (y : Y) → i < k → slice_get (map view xs) i ≡ Some y → f y ≡ v)
    → (i : ℕ) (y : Y) → slice_get (map view xs) i ≡ Some y → f y ≡ v
whole view xs f v k all before i y there =
    let within = slice_get_within (map view xs) i y there in
    let count = length-map xs view in
    before i y (omega (arith, all, within, count)) there

-- something that passes is there
pub held : {Y : Type 0} → (passes : Y → Bool) (o : Option Y) → holds passes o ≡ true → (x : Y) × (o ≡ Some x) × (passes x ≡ true)
held passes None e = absurd (grind (arith, e))
held passes (Some x) e = (x, refl, e)

pub none_passes : {X Y : Type 0} → (view : X → Option Y) (passes : Y → Bool) (xs : List X) (k : ℕ) → length xs ≤ k
    → ((i : ℕ) (o : Option Y) → i < k → slice_get (map view xs) i ≡ Some o → holds passes o ≡ false) → NonePasses passes (map view xs)
none_passes {Y = Y} view passes xs k all before i x there = whole view xs (λ (o : Option Y). holds passes o) false k all before i (Some x) there

-- ---- what stands at a place

-- what stands at a place is what a lent slice has there
pub stands_at : {X Y : Type 0} → (view : X → Option Y) (xs lent : List X) (k : ℕ) (x : Y) (o : X) → lent ≡ xs → slice_get (map view xs) k ≡ Some (Some x)
    → o ≡ get_or lent k o → view o ≡ Some x
stands_at {X} view xs lent k x o same there is =
    let within = slice_get_within (map view xs) k (Some x) there in
    let count = length-map xs view in
    let read = reads view xs k o (omega (arith, within, count)) (is ∙ ap (λ (l : List X). get_or l k o) same) in
    one_of (view o) (Some x) (sym read ∙ there)

-- what a search found in a slice stands in the whole
pub in_table : {X Y : Type 0} → (view : X → Y) (xs ws : List X) (k : ℕ) (o : Y) → ws ≡ xs → slice_get (map view ws) k ≡ Some o → slice_get (map view xs) k ≡ Some o
in_table {X} view xs ws k o same there = ap (λ (l : List X). slice_get (map view l) k) (sym same) ∙ there

pub within_table : {X Y : Type 0} → (view : X → Y) (xs lent : List X) (k : ℕ) (o : Y) → lent ≡ xs → slice_get (map view xs) k ≡ Some o → k < length lent
within_table view xs lent k o same there =
    let within = slice_get_within (map view xs) k o there in
    let count = length-map xs view in
    let long = ap length same in
    omega (arith, within, count, long)

pub nothing_past : {X Y : Type 0} → (view : X → Option Y) (xs : List X) (place : ℕ) (x : Y) → length xs ≤ place → IsAt (map view xs) place x → ⊥
nothing_past view xs place x past there =
    let within = slice_get_within (map view xs) place (Some x) there in
    let count = length-map xs view in
    absurd (omega (arith, within, count, past))

-- what has a number is at a place, or not
pub found_there : {X Y : Type 0} → (view : X → Option Y) (number_of : Y → ℕ) (xs : List X) (place number : ℕ) (o : X) → place < length xs → o ≡ get_or xs place o
    → holds (λ y. number_of y == number) (view o) ≡ true → (x : Y) × IsAt (map view xs) place x × (number_of x ≡ number)
found_there view number_of xs place number o less is e =
    let found = held (λ y. number_of y == number) (view o) e in
    let same = found.2 in
    (found.0, reads view xs place o less is ∙ ap Some found.1, grind (arith, nat_tests, same))

pub not_there : {X Y : Type 0} → (view : X → Option Y) (number_of : Y → ℕ) (xs : List X) (place number : ℕ) (o : X) (x : Y) → place < length xs → o ≡ get_or xs place o
    → holds (λ y. number_of y == number) (view o) ≡ false → IsAt (map view xs) place x → number_of x ≡ number → ⊥
not_there view number_of xs place number o x less is e there call =
    let same = one_of (view o) (Some x) (sym (reads view xs place o less is) ∙ there) in
    let no : (number_of x == number) ≡ false = ap (holds (λ y. number_of y == number)) (sym same) ∙ e in
    absurd (grind (arith, nat_tests, no, call))

-- no place is free, as it is said of a slice
pub full_in : {X Y : Type 0} → (view : X → Option Y) (xs ws : List X) → ws ≡ xs → ((i : ℕ) → slice_get (map view ws) i ≡ Some None → ⊥) → (i : ℕ) → slice_get (map view xs) i ≡ Some None → ⊥
full_in view xs ws e h i there = h i (in_table view ws xs i None (sym e) there)

pub some_place : {X Y : Type 0} → (view : X → Y) (o : Option X) → is_some o ≡ true → is_some (option_map view o) ≡ true
some_place view None e = e
some_place view (Some x) e = refl

-- a new table has free places alone
pub all_free : {X Y : Type 0} → (view : X → Y) (n : ℕ) (xs : List (Option X)) → xs ≡ replicate n None → map (option_map view) xs ≡ replicate n None
all_free {X} {Y} view n xs e = ap (map (option_map view)) e ∙ free n where
  free : (n : ℕ) → map (option_map view) (replicate n None) ≡ replicate n None
  free zero = refl
  free (suc n) = ap (λ (l : List (Option Y)). None ∷ l) (free n)

pub none_yet : {Y : Type 0} → (k i : ℕ) (x : Y) → slice_get (replicate k None) i ≡ Some (Some x) → ⊥
none_yet {Y} k i x there =
    let nothing : Option Y = None in
    let within = slice_get_within (replicate k nothing) i (Some x) there in
    let count = length-replicate k nothing in
    let read = get_or_from_slice_get (replicate k nothing) i (Some x) (Some x) there in
    no_some x (sym (get_or-replicate k i nothing (Some x) (omega (arith, within, count))) ∙ read)

-- ---- what a change leaves

refilled : {X : Type 0} → (xs ws : List X) → length ws ≡ length xs → refill (length xs) xs ws ≡ ws
refilled {X} xs ws e =
    let none = drop_all (length ws) xs (omega (arith, e)) in
    let same : ws ++ drop (length ws) xs ≡ ws = ap (λ (r : List X). ws ++ r) none ∙ append-nil ws in
    ap (take (length xs)) same ∙ take_all (length xs) ws (omega (arith, e))

-- the list with one element changed through a lent slice, as it is seen
changed : {X Y : Type 0} → (view : X → Y) (xs lent : List X) (k : ℕ) (z : X) → lent ≡ xs
    → map view (refill (length xs) xs (set lent k z)) ≡ set (map view xs) k (view z)
changed {X} view xs lent k z same =
    let long : length (set lent k z) ≡ length xs = length-set lent k z ∙ ap length same in
    ap (map view) (refilled xs (set lent k z) long ∙ ap (λ (l : List X). set l k z) same) ∙ map-set view xs k z

-- one place is changed
pub puts : {X Y : Type 0} → (view : X → Option Y) (xs lent : List X) (k : ℕ) (z : X) (before after : Option Y) → lent ≡ xs
    → slice_get (map view xs) k ≡ Some before → view z ≡ after → Puts (map view xs) (map view (refill (length xs) xs (set lent k z))) k before after
puts view xs lent k z before after same there is =
    record { there = there; put = changed view xs lent k z same ∙ ap (set (map view xs) k) is }

put_same : {X : Type 0} → (xs : List X) (place : ℕ) (a : X) → place < length xs → slice_get (set xs place a) place ≡ Some a
put_same xs place a less =
    let count = length-set xs place a in
    slice_get-get_or (set xs place a) place a (omega (arith, less, count)) ∙ ap Some (get_or-set_same xs place a a less)

put_other : {X : Type 0} → (xs : List X) (place i : ℕ) (a o : X) → i ≢ place → slice_get (set xs place a) i ≡ Some o → slice_get xs i ≡ Some o
put_other xs place i a o other there =
    let within = slice_get_within (set xs place a) i o there in
    let count = length-set xs place a in
    let read = get_or_from_slice_get (set xs place a) i o o there in
    slice_get-get_or xs i o (omega (arith, within, count)) ∙ ap Some (sym (get_or-set_other xs place i a o other) ∙ read)

-- what stands at a place behind a change: what was put there, or what stood there
pub puts_at : {Y : Type 0} → (old new : List (Option Y)) (place i : ℕ) (before after o : Option Y) → Puts old new place before after → slice_get new i ≡ Some o
    → ((i ≡ place) × (after ≡ o)) ⊎ ((i ≢ place) × (slice_get old i ≡ Some o))
puts_at {Y} old new place i before after o p there = elim (cases_eq i place) [
  | inl same ↦
      let less = slice_get_within old place before p.there in
      let put = put_same old place after less in
      let here = ap (λ (k : ℕ). slice_get new k) (sym same) ∙ there in
      let now = ap (λ (l : List (Option Y)). slice_get l place) p.put in
      inl (same, one_of after o (sym put ∙ (sym now ∙ here)))
  | inr other ↦
      let now = ap (λ (l : List (Option Y)). slice_get l i) p.put in
      inr (other, put_other old place i after o other (sym now ∙ there))
]
