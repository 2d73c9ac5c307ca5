-- What a call does to the numbers that are reserved: o are those before, mid those behind a draw, reserved is the first that isn't reserved.
use Rattle.std.proofs.Common.{◌≡◌, ℕ, ◌+◌, ◌<◌, ◌≤◌, ◌^◌, inl, inr, ◌∙◌, sym, ap, subst, refl, arith, Bool, true, false, Option, Some, None, Result, Ok, Err}
use Rattle.std.specs.Prelude.{unwrap_or}
use Rattle.std.proofs.Math.Nat.{eq-or-lt_of_le}
use Rattle.osc_context.specs.Reserving.{Covers, next_limit}
use Rattle.osc_kept_ends.specs.Numbering.{Own, Draw, Reserve, Load, Use, Allowed, Draws, DrawsFrom, after, nothing_drawn, upcoming}
use Rattle.osc_handle.specs.Reserved.{AreReserved, WantsSave}
use Rattle.osc_handle.specs.declared.kept_refusal.KeptRefusal.{KeptRefusal}
use Rattle.osc_handle.specs.declared.kept_refusal.KeptRefusal.TheVariants.{BadHandle, SaveFirst}

-- with none in hand, the next number comes
pub comes_next : (o : Own) → o.hand ≡ None → upcoming o ≡ o.next
comes_next o none = ap (λ (x : Option ℕ). unwrap_or x o.next) none

-- the one in hand comes first
comes_hand : (o : Own) (n : ℕ) → o.hand ≡ Some n → upcoming o ≡ n
comes_hand o n is = ap (λ (x : Option ℕ). unwrap_or x o.next) is

not_above : (hand : Option ℕ) (o : Own) (reserved : ℕ) → o.hand ≡ hand → AreReserved o reserved → upcoming o ≤ o.next
not_above None o reserved is r = let comes = comes_next o is in omega (arith, comes)
not_above (Some n) o reserved is r =
    let comes : upcoming o ≡ n = comes_hand o n is in
    let last : n + 1 ≡ o.next = r.last n is in
    omega (arith, comes, last)

-- the number with which the end seals next isn't above the limit
pub upcoming_within : (o : Own) (reserved : ℕ) → AreReserved o reserved → upcoming o ≤ reserved
upcoming_within o reserved r =
    let first : upcoming o ≤ o.next = not_above o.hand o reserved refl r in
    let within : o.next ≤ o.limit = r.within in
    let limit : o.limit ≡ reserved = r.limit_is in
    omega (arith, first, within, limit)

-- ---- a draw

some_is : (n m : ℕ) → Some n ≡ Some m → m ≡ n
some_is n m e = sym (ap (λ (x : Option ℕ). unwrap_or x m) e)

-- one of those that are reserved is drawn
drawn : (o : Own) (reserved : ℕ) → o.hand ≡ None → o.next < o.limit → AreReserved o reserved → AreReserved (after Draw o) reserved
drawn o reserved none less r =
    record {
      limit_is = r.limit_is;
      within = omega (arith, less);
      last = λ n is. let e : n ≡ o.next = some_is o.next n is in omega (arith, e);
      covered = subst (λ n. Covers o.floor n o.limit) (comes_next o none) r.covered;
    }

-- none is left
all_used : (o : Own) (reserved : ℕ) → o.hand ≡ None → o.next ≡ o.limit → AreReserved o reserved → reserved ≤ 2 ^ 40 → (WantsSave true (upcoming o) reserved → ⊥) → o.next ≡ 2 ^ 40
all_used o reserved none whole r top wants =
    let limit : o.limit ≡ reserved = r.limit_is in
    let comes : upcoming o ≡ o.next = comes_next o none in
    elim (eq-or-lt_of_le top) [
      | inl end ↦ omega (arith, whole, limit, end)
      | inr below ↦ absurd (wants (comes ∙ whole ∙ limit, below, inl refl))
    ]

drawn_from : (hand : Option ℕ) (o : Own) (reserved : ℕ) → o.hand ≡ hand → AreReserved o reserved → reserved ≤ 2 ^ 40 → (WantsSave true (upcoming o) reserved → ⊥)
    → (mid : Own) × DrawsFrom hand o mid × AreReserved mid reserved
drawn_from (Some n) o reserved is r top wants = (o, refl, r)
drawn_from None o reserved is r top wants = elim (eq-or-lt_of_le r.within) [
  | inl whole ↦ (o, inr (inr (all_used o reserved is whole r top wants, refl)), r)
  | inr less ↦ (after Draw o, inl ((is, less), refl), drawn o reserved is less r)
]

-- a number is drawn where it is asked for, if no save has to come first
pub drawn_by : (asked : Bool) (o : Own) (reserved : ℕ) → AreReserved o reserved → reserved ≤ 2 ^ 40 → (WantsSave asked (upcoming o) reserved → ⊥)
    → (mid : Own) × Draws asked o mid × AreReserved mid reserved
drawn_by true o reserved r top wants = drawn_from o.hand o reserved refl r top wants
drawn_by false o reserved r top wants = (o, refl, r)

-- ---- the use of the number in hand, a save, and a load

none_last : (next n : ℕ) → None ≡ Some n → n + 1 ≡ next
none_last next n is = cc

pub used : (mid : Own) (n reserved : ℕ) → AreReserved mid reserved → AreReserved (after (Use n) mid) reserved
used mid n reserved r =
    let first : upcoming mid ≤ mid.next = not_above mid.hand mid reserved refl r in
    record {
      limit_is = r.limit_is;
      within = r.within;
      last = λ m is. none_last mid.next m is;
      covered = record { most = r.covered.most; whole = λ less. r.covered.whole (omega (arith, first, less)) };
    }

empty_hand : (hand : Option ℕ) (o : Own) (reserved : ℕ) → o.hand ≡ hand → AreReserved o reserved → upcoming o ≡ reserved → hand ≡ None
empty_hand None o reserved is r whole = refl
empty_hand (Some n) o reserved is r whole =
    let comes : upcoming o ≡ n = comes_hand o n is in
    let last : n + 1 ≡ o.next = r.last n is in
    let within : o.next ≤ o.limit = r.within in
    let limit : o.limit ≡ reserved = r.limit_is in
    absurd (omega (arith, comes, last, within, limit, whole))

-- where a save has to come first, it can
pub can_reserve : (o : Own) (reserved : ℕ) → AreReserved o reserved → WantsSave true (upcoming o) reserved → Allowed Reserve o
can_reserve o reserved r (whole, below, asked) =
    let none : o.hand ≡ None = empty_hand o.hand o reserved refl r whole in
    let limit : o.limit ≡ reserved = r.limit_is in
    (none, sym (comes_next o none) ∙ whole ∙ sym limit, omega (arith, limit, below))

pub reserved_more : (o : Own) (reserved : ℕ) → AreReserved o reserved → Allowed Reserve o → AreReserved (after Reserve o) (next_limit reserved)
reserved_more o reserved r (none, whole, below) =
    record {
      limit_is = ap next_limit r.limit_is;
      within = omega (arith, whole, below);
      last = λ n is. let e : n ≡ o.next = some_is o.next n is in omega (arith, e);
      covered = record { most = omega arith; whole = λ less. refl };
    }

pub loaded : (n floor : ℕ) → floor ≤ n → AreReserved (after (Load n) (nothing_drawn floor)) n
loaded n floor least =
    record {
      limit_is = refl;
      within = omega arith;
      last = λ m is. none_last n m is;
      covered = record { most = least; whole = λ less. absurd (omega (arith, less)) };
    }

-- ---- refusals

-- the error of an answer, or another where there is none
error_or : {T E : Type 0} → E → Result T E → E
error_or other (Ok x) = other
error_or other (Err e) = e

-- two answers that are the same refuse by the same error
pub same_refusal : {T E : Type 0} {a b : E} → ◌≡◌ {A = Result T E} (Err a) (Err b) → a ≡ b
unfolding error_or
same_refusal {T} {E} {a} {b} same = ap (error_or a) same

-- what is done isn't refused
pub no_error : {T E : Type 0} {x : T} {e : E} → ◌≡◌ {A = Result T E} (Ok x) (Err e) → ⊥
no_error is = cc

-- the number to save of a refusal, or 0 where it has none
number_in : KeptRefusal → ℕ
number_in BadHandle = 0
number_in (SaveFirst number) = number

-- the same refusal has the same number to save
pub same_save : {T : Type 0} {a b : ℕ} → ◌≡◌ {A = Result T KeptRefusal} (Err (SaveFirst a)) (Err (SaveFirst b)) → b ≡ a
unfolding number_in
same_save {T} {a} {b} is = sym (ap number_in (same_refusal is))
