-- The table of one context, and the list of one.
use Rattle.std.proofs.Common.{◌≡◌, ◌<◌, ◌∷◌, [], ℕ, List, Option, Some, suc, zero, arith, refl, subst, sym, ap, ◌∙◌, Result, Ok, Err}
use Rattle.std.specs.Prelude.{OnErr, slice_get, slice_index_or, slice_set}
use Rattle.osc_life.specs.Life.{Life}
use Rattle.osc_life.specs.declared.slot.Slot.{Slot}
use Rattle.osc_handle.specs.TableSteps.{ChangesAt}
use Rattle.osc_handle.specs.declared.slot_handle.SlotHandle.{SlotHandle}
use Rattle.osc_handle.specs.declared.unanswered_handle.UnansweredHandle.{UnansweredHandle}

-- whatever place is read, it is the one
pub read_one : (b : SlotHandle) (i : ℕ) → slice_index_or (b ∷ []) i b ≡ b
read_one b zero = refl
read_one b (suc i) = refl

-- the place that is there is written
pub set_one : (b c : SlotHandle) (i : ℕ) → i < 1 → slice_set (b ∷ []) i c ≡ c ∷ []
set_one b c zero h = refl
set_one b c (suc i) h = absurd (omega (arith, h))

-- the numbers that are there are read, and written
pub number_there : (u : UnansweredHandle) (i : ℕ) → i < 1 → slice_get (u ∷ []) i ≡ Some u
number_there u zero h = refl
number_there u (suc i) h = absurd (omega (arith, h))

pub set_number : (u v : UnansweredHandle) (i : ℕ) → i < 1 → v ∷ [] ≡ slice_set (u ∷ []) i v
set_number u v zero h = refl
set_number u v (suc i) h = absurd (omega (arith, h))

-- what is known of the first index is known of this one
pub life_at_first : (lives : ℕ → Option Life) (i : ℕ) (l : Life) → i ≡ 0 → lives i ≡ Some l → lives 0 ≡ Some l
life_at_first lives i l first is = ap lives (sym first) ∙ is

pub changes_first : (slots : List (Option Slot)) (lives : ℕ → Option Life) (i : ℕ) (l : Life) (t : List SlotHandle) → i ≡ 0 → ChangesAt slots lives 0 l t → ChangesAt slots lives i l t
changes_first slots lives i l t first changes = subst (λ k. ChangesAt slots lives k l t) (sym first) changes

-- what holds where it is refused
pub on_err : {A B : Type 0} → (r : Result A B) (P Q : Type 0) → (P → Q) → OnErr r P → OnErr r Q
on_err (Ok x) P Q f h = tt
on_err (Err e) P Q f h = f h
