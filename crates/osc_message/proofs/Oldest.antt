-- The message for which all was sent and that came first.
use Rattle.std.proofs.Common.{◌≡◌, ◌∙◌, sym, ap, refl, arith, length, ℕ, ◌+◌, ◌<◌, ◌≤◌, List, Some, Bool, true, false, inl, inr, get_or}
use Rattle.std.specs.Prelude.{Option, None, map, nat_le, slice_get, if◌then◌else◌}
use Rattle.std.proofs.lemmas.Bool.{cases_eq}
use Rattle.std.proofs.lemmas.Bool.Decides.{nat_tests}
use Rattle.std.proofs.lemmas.List.{length-map}
use Rattle.std.proofs.lemmas.Option.{slice_get_within}
use Rattle.osc_message.specs.declared.arrival.Arrival.{Arrival}
use Rattle.osc_message.specs.declared.heard.Oldest.{Oldest}
use Rattle.osc_message.specs.Hearing.{Heard, is_done}
use Rattle.osc_message.specs.HearingFinding.{IsOldestDone, done_number, older_by, older_of}
use Rattle.osc_message.specs.HearingViews.{seen_of}
use Rattle.osc_message.specs.Slots.{IsAt}
use Rattle.osc_message.proofs.Walking.{no_some, one_of, reads}

-- what was found among the first k places
abbrev pub IsOldest : List (Option Heard) → ℕ → Option Oldest → Type 0
IsOldest places k None = (i : ℕ) (y : Heard) → i < k → IsAt places i y → is_done y ≡ false
IsOldest places k (Some found) = (x : Heard) × IsAt places found.place x × (is_done x ≡ true) × (x.number ≡ found.number)
    × ((i : ℕ) (y : Heard) → i < k → IsAt places i y → is_done y ≡ true → found.number ≤ y.number)

-- what is at place k is done, with this number, or it isn't
abbrev Shows : List (Option Heard) → ℕ → Option ℕ → Type 0
Shows places k None = (y : Heard) → IsAt places k y → is_done y ≡ false
Shows places k (Some number) = (x : Heard) × IsAt places k x × (is_done x ≡ true) × (x.number ≡ number)

shows_by : (places : List (Option Heard)) (k : ℕ) (o : Option Heard) → slice_get places k ≡ Some o → Shows places k (done_number o)
shows_by places k None there = λ y at. absurd (no_some y (one_of None (Some y) (sym there ∙ at)))
shows_by places k (Some x) there = done_or_not (is_done x) refl where
  done_or_not : (b : Bool) → is_done x ≡ b → Shows places k (if b then Some x.number else None)
  done_or_not true e = (x, there, e, refl)
  done_or_not false e = λ y at. let same = one_of x y (one_of (Some x) (Some y) (sym there ∙ at)) in sym (ap is_done same) ∙ e

pub none_before : (places : List (Option Heard)) → IsOldest places 0 None
none_before places i y less at = absurd (omega (arith, less))

not_both : (b : Bool) → b ≡ false → b ≡ true → ⊥
not_both b is_not is = absurd (grind (arith, is_not, is))

-- what was found stays the oldest where the next one isn't done
none_more : (places : List (Option Heard)) (k : ℕ) (found : Option Oldest) → IsOldest places k found → Shows places k None → IsOldest places (k + 1) found
none_more places k None old shows = λ i y less at. elim (cases_eq i k) [
  | inl same ↦ shows y (ap (slice_get places) (sym same) ∙ at)
  | inr other ↦ old i y (omega (arith, less, other)) at
]
none_more places k (Some found) (x, there, done, number, least) shows = (
  x,
  there,
  done,
  number,
  λ i y less at is. elim (cases_eq i k) [
    | inl same ↦ absurd (not_both (is_done y) (shows y (ap (slice_get places) (sym same) ∙ at)) is)
    | inr other ↦ least i y (omega (arith, less, other)) at is
  ],
)

-- the next one is the oldest where none before was done
first_one : (places : List (Option Heard)) (k number : ℕ) → IsOldest places k None → Shows places k (Some number)
    → IsOldest places (k + 1) (Some (record { place = k; number = number }))
first_one places k number old (x, there, done, is) = (
  x,
  there,
  done,
  is,
  λ i y less at yes. elim (cases_eq i k) [
    | inl same ↦
        let one = one_of x y (one_of (Some x) (Some y) (sym there ∙ (ap (slice_get places) (sym same) ∙ at))) in
        let alike = ap (λ (h : Heard). h.number) one in
        omega (arith, is, alike)
    | inr other ↦ absurd (not_both (is_done y) (old i y (omega (arith, less, other)) at) yes)
  ],
)

older_one : (places : List (Option Heard)) (k number : ℕ) (found : Oldest) (b : Bool) → nat_le found.number number ≡ b → IsOldest places k (Some found)
    → Shows places k (Some number) → IsOldest places (k + 1) (if b then Some found else Some (record { place = k; number = number }))
older_one places k number found true e (x, there, done, is, least) (z, here, also, its) = (
  x,
  there,
  done,
  is,
  λ i y less at yes. elim (cases_eq i k) [
    | inl same ↦
        let one = one_of z y (one_of (Some z) (Some y) (sym here ∙ (ap (slice_get places) (sym same) ∙ at))) in
        let alike = ap (λ (h : Heard). h.number) one in
        let below : found.number ≤ number = grind (arith, nat_tests, e) in
        omega (arith, its, alike, below)
    | inr other ↦ least i y (omega (arith, less, other)) at yes
  ],
)
older_one places k number found false e (x, there, done, is, least) (z, here, also, its) = (
  z,
  here,
  also,
  its,
  λ i y less at yes. elim (cases_eq i k) [
    | inl same ↦
        let one = one_of z y (one_of (Some z) (Some y) (sym here ∙ (ap (slice_get places) (sym same) ∙ at))) in
        let alike = ap (λ (h : Heard). h.number) one in
        omega (arith, its, alike)
    | inr other ↦
        let above : number < found.number = grind (arith, nat_tests, e) in
        let more = least i y (omega (arith, less, other)) at yes in
        omega (arith, above, more)
  ],
)

more : (places : List (Option Heard)) (k : ℕ) (found : Option Oldest) (number : Option ℕ) → IsOldest places k found → Shows places k number
    → IsOldest places (k + 1) (older_by found number k)
more places k found None old shows = none_more places k found old shows
more places k None (Some number) old shows = first_one places k number old shows
more places k (Some found) (Some number) old shows = older_one places k number found (nat_le found.number number) refl old shows

-- one place more was looked at
pub one_more : (xs : List (Option Arrival)) (k : ℕ) (o : Option Arrival) (found : Option Oldest) → k < length xs → o ≡ get_or xs k o → IsOldest (map seen_of xs) k found
    → IsOldest (map seen_of xs) (k + 1) (older_of found (seen_of o) k)
one_more xs k o found less is old =
    more (map seen_of xs) k found (done_number (seen_of o)) old (shows_by (map seen_of xs) k (seen_of o) (reads seen_of xs k o less is))

-- all places were looked at
pub all_none : (xs : List (Option Arrival)) (k : ℕ) → length xs ≤ k → IsOldest (map seen_of xs) k None → IsOldestDone (map seen_of xs) None
all_none xs k all old i y at =
    let within = slice_get_within (map seen_of xs) i (Some y) at in
    let count = length-map xs seen_of in
    old i y (omega (arith, within, count, all)) at

pub all_some : (xs : List (Option Arrival)) (k : ℕ) (found : Oldest) → length xs ≤ k → IsOldest (map seen_of xs) k (Some found) → IsOldestDone (map seen_of xs) (Some found.place)
all_some xs k found all (x, there, done, number, least) = (
  x,
  there,
  done,
  λ i y at yes.
      let within = slice_get_within (map seen_of xs) i (Some y) at in
      let count = length-map xs seen_of in
      let more = least i y (omega (arith, within, count, all)) at yes in
      omega (arith, number, more),
)
