-- Windows that take exactly the new numbers, and stay so.
use Rattle.std.proofs.Common.{◌≡◌, ◌≢◌, ℕ, ◌+◌, ◌<◌, ◌≤◌, ◌↔◌, ◌∙◌, List, [], ◌∷◌, ◌++◌, Bool, sym, ap, arith, subst}
use Rattle.std.specs.Prelude.{nat_lt, IsTrue}
use Rattle.std.specs.List.{All}
use Rattle.std.proofs.lemmas.Bool.Decides.{nat_tests}
use Rattle.std.proofs.lemmas.List.{append-nil}
use Rattle.std.proofs.lemmas.List.Elements.{All-nil, All-cons, All-head, All-tail}
use Rattle.osc_window.specs.declared.window_size.WindowSize.{WindowSize}
use Rattle.osc_window.specs.declared.window_size.WindowSize.TheVariants.{Place1, Places32, Places64}
use Rattle.osc_window.specs.declared.window.Window.{Window}
use Rattle.osc_window.specs.Window.{IsNew}
use Rattle.osc_window.specs.Views.{places_of, size_of}
use Rattle.osc_window.specs.Taken.{IsFresh, IsFromFloor, Spends, AgreesWith}
use Rattle.osc_window.specs.Laws.{BecomesBy, FreshTakesNew, FloorTakesNew, InOrder}
use Rattle.osc_window.proofs.Masks.{left_by}

-- ---- tests and facts

-- a test that says what a mark leaves says it as a fact
pub left_is : (after before : Bool) (w n m : ℕ) → after ≡ left_by before w n m
    → IsTrue after ↔ (IsTrue before × (m ≢ n) × (n < m + w))
left_is after before w n m e = (
  λ h. (grind (arith, nat_tests), grind (arith, nat_tests), grind (arith, nat_tests)),
  λ h. grind (arith, nat_tests, h.0, h.1, h.2),
)

-- a test that compares says it as a fact
pub above_is : (after : Bool) (floor n : ℕ) → after ≡ nat_lt floor n → IsTrue after ↔ (floor < n)
above_is after floor n e = (λ h. grind (arith, nat_tests), λ h. grind (arith, nat_tests))

-- each size has places
pub places_some : (size : WindowSize) → 0 < places_of size
places_some Place1 = omega arith
places_some Places32 = omega arith
places_some Places64 = omega arith

-- and 64 at most
pub places_most : (size : WindowSize) → places_of size ≤ 64
places_most Place1 = omega arith
places_most Places32 = omega arith
places_most Places64 = omega arith

-- ---- new numbers

-- with nothing spent and floor 0, every number is new
pub new_fresh : (w n : ℕ) → IsNew w 0 [] n
new_fresh w n = record {
  above = omega arith;
  unspent = All-nil (λ m. m ≢ n);
  within = All-nil (λ m. m < n + w);
}

-- with the floor alone spent, the numbers above it are new
pub new_floor : (w floor n : ℕ) → (floor < n) ↔ IsNew w floor (floor ∷ []) n
new_floor w floor n = (
  λ h. record {
    above = omega arith;
    unspent = All-cons (λ m. m ≢ n) floor [] (λ e. omega (arith, e)) (All-nil (λ m. m ≢ n));
    within = All-cons (λ m. m < n + w) floor [] (omega arith) (All-nil (λ m. m < n + w));
  },
  λ h. let other = All-head (λ m. m ≢ n) floor [] h.unspent in omega (arith, h.above, other),
)

-- once n is spent too, a number is new if it was, isn't n, and is less than w below it
pub new_spent : (w floor : ℕ) (spent : List ℕ) (n m : ℕ)
    → (IsNew w floor spent m × (m ≢ n) × (n < m + w)) ↔ IsNew w floor (n ∷ spent) m
new_spent w floor spent n m = (
  λ h. record {
    above = h.0.above;
    unspent = All-cons (λ k. k ≢ m) n spent (λ e. h.1 (sym e)) h.0.unspent;
    within = All-cons (λ k. k < m + w) n spent h.2 h.0.within;
  },
  λ h. (
    record {
      above = h.above;
      unspent = All-tail (λ k. k ≢ m) n spent h.unspent;
      within = All-tail (λ k. k < m + w) n spent h.within;
    },
    λ e. All-head (λ k. k ≢ m) n spent h.unspent (sym e),
    All-head (λ k. k < m + w) n spent h.within,
  ),
)

-- ---- agreement

-- a fresh window agrees
pub fresh_agrees : (window : Window) (size : WindowSize) → IsFresh window size → AgreesWith window size 0 []
fresh_agrees window size h = record {
  size_is = h.size_is;
  takes_new = λ n. (λ t. new_fresh (places_of size) n, λ k. h.takes_all n);
}

-- one from a floor agrees
pub floor_agrees : (window : Window) (floor : ℕ) (size : WindowSize) → IsFromFloor window floor size
    → AgreesWith window size floor (floor ∷ [])
floor_agrees window floor size h = record {
  size_is = h.size_is;
  takes_new = λ n. (
    λ t. (new_floor (places_of size) floor n).0 ((h.takes_above n).0 t),
    λ k. (h.takes_above n).1 ((new_floor (places_of size) floor n).1 k),
  );
}

-- and with nothing spent from the number behind the floor on
pub above_agrees : (window : Window) (floor : ℕ) (size : WindowSize) → IsFromFloor window floor size → AgreesWith window size (floor + 1) []
above_agrees window floor size h = record {
  size_is = h.size_is;
  takes_new = λ n. (
    λ t. let above = (h.takes_above n).0 t in record {
      above = omega (arith, above);
      unspent = All-nil (λ m. m ≢ n);
      within = All-nil (λ m. m < n + places_of size);
    },
    λ k. let above = k.above in (h.takes_above n).1 (omega (arith, above)),
  );
}

-- a mark keeps the agreement
pub spends_agrees : (old new : Window) (n : ℕ) → Spends old new n → (size : WindowSize) (floor : ℕ) (spent : List ℕ)
    → AgreesWith old size floor spent → AgreesWith new size floor (n ∷ spent)
spends_agrees old new n s size floor spent h = record {
  size_is = s.size_stays ∙ h.size_is;
  takes_new = λ m.
      let places : places_of (size_of old) ≡ places_of size = ap places_of h.size_is in (
        λ t.
            let left = (s.takes_less m).0 t in
            (new_spent (places_of size) floor spent n m).0 ((h.takes_new m).0 left.0, left.1, rw places at left.2),
        λ k.
            let left = (new_spent (places_of size) floor spent n m).1 k in
            (s.takes_less m).1 ((h.takes_new m).1 left.0, left.1, rw places left.2),
      );
}

-- so do any marks
marks_agree : (first : Window) (size : WindowSize) (floor : ℕ) (spent : List ℕ) → AgreesWith first size floor spent
    → (last : Window) (marks : List ℕ) → BecomesBy first last marks → AgreesWith last size floor (marks ++ spent)
marks_agree first size floor spent h last [] b = subst (λ (w : Window). AgreesWith w size floor spent) (sym b) h
marks_agree first size floor spent h last (n ∷ earlier) b =
    spends_agrees b.0 last n b.3 size floor (earlier ++ spent) (marks_agree first size floor spent h b.0 earlier b.1)

-- the law from a fresh window on
pub fresh_law : FreshTakesNew
fresh_law first last size marks f b =
    subst (λ (spent : List ℕ). AgreesWith last size 0 spent) (append-nil marks)
    (marks_agree first size 0 [] (fresh_agrees first size f) last marks b)

-- the law from a floor on
pub floor_law : FloorTakesNew
floor_law first last floor size marks f b =
    marks_agree first size floor (floor ∷ []) (floor_agrees first floor size f) last marks b

-- ---- one place

all_below : (n : ℕ) (spent : List ℕ) → All (λ m. m ≢ n) spent → All (λ m. m < n + 1) spent → All (λ m. m < n) spent
all_below n [] other within = All-nil (λ m. m < n)
all_below n (m ∷ spent) other within =
    let apart = All-head (λ k. k ≢ n) m spent other in
    let near = All-head (λ k. k < n + 1) m spent within in
    All-cons (λ k. k < n) m spent (grind (arith, apart, near)) (all_below n spent (All-tail (λ k. k ≢ n) m spent other) (All-tail (λ k. k < n + 1) m spent within))

pub in_order : InOrder
in_order floor n spent new = all_below n spent new.unspent new.within
