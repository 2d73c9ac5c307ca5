-- What a mark does to a life, and to the gate that agrees with it.
use Rattle.std.proofs.Common.{◌≡◌, ℕ, sym, ap, subst, refl, Bool, true, false, Option, Some, None, List, [], ◌∷◌}
use Rattle.std.specs.Prelude.{unwrap_or}
use Rattle.osc_window.specs.declared.window_size.WindowSize.{WindowSize}
use Rattle.osc_window.specs.declared.window.Window.{Window}
use Rattle.osc_window.specs.declared.gate.Gate.{Gate}
use Rattle.osc_window.specs.declared.gate.Gate.TheVariants as gates
use Rattle.osc_window.specs.Taken.{AgreesWith}
use Rattle.osc_window.specs.Views.{IsOpenAnd}
use Rattle.osc_life.specs.Agrees.{GateAgrees}
use Rattle.osc_life.specs.Life.{Mark, Delivered, Spoiled, Challenged, Answered, PassedOver, Life, opened, first_delivered, floor, spent, marked}

-- the words of a closed life
pub record IsBare (fresh : Bool) (marks : List Mark) : Type 0 where
  pub fresh_is : fresh ≡ false
  pub first_is : first_delivered marks ≡ None
  pub spent_is : spent fresh marks ≡ []

pub closed_bare : (fresh : Bool) (marks : List Mark) → opened fresh marks ≡ false → IsBare fresh marks
closed_bare fresh [] h = record { fresh_is = h; first_is = refl; spent_is = refl }
closed_bare fresh (Delivered n ∷ marks) h = cc
closed_bare fresh (Spoiled n ∷ marks) h =
    let b = closed_bare fresh marks h in
    record { fresh_is = b.fresh_is; first_is = b.first_is; spent_is = rw h b.spent_is }
closed_bare fresh (Challenged echo issued ∷ marks) h =
    let b = closed_bare fresh marks h in
    record { fresh_is = b.fresh_is; first_is = b.first_is; spent_is = b.spent_is }
closed_bare fresh (Answered ∷ marks) h =
    let b = closed_bare fresh marks h in
    record { fresh_is = b.fresh_is; first_is = b.first_is; spent_is = b.spent_is }
closed_bare fresh (PassedOver count ∷ marks) h =
    let b = closed_bare fresh marks h in
    record { fresh_is = b.fresh_is; first_is = b.first_is; spent_is = b.spent_is }

open_first : (marks : List Mark) (n : ℕ) → opened false marks ≡ true → unwrap_or (first_delivered marks) n ≡ unwrap_or (first_delivered marks) 0
open_first [] n h = cc
open_first (Delivered m ∷ marks) n h = refl
open_first (Spoiled m ∷ marks) n h = open_first marks n h
open_first (Challenged echo issued ∷ marks) n h = open_first marks n h
open_first (Answered ∷ marks) n h = open_first marks n h
open_first (PassedOver count ∷ marks) n h = open_first marks n h

-- a delivery in an open life leaves the floor, and in a closed one makes it
pub floor_open : (least : ℕ) (fresh : Bool) (marks : List Mark) (n : ℕ) → opened fresh marks ≡ true → floor least fresh (Delivered n ∷ marks) ≡ floor least fresh marks
floor_open least true marks n h = refl
floor_open least false marks n h = open_first marks n h

pub floor_closed : (least : ℕ) (fresh : Bool) (marks : List Mark) (n : ℕ) → opened fresh marks ≡ false → floor least fresh (Delivered n ∷ marks) ≡ n
floor_closed least true marks n h = let e = (closed_bare true marks h).fresh_is in cc
floor_closed least false marks n h = ap (λ o. unwrap_or o n) (closed_bare false marks h).first_is

-- what a mark of the window does
abbrev pub Spends : Window → Window → ℕ → Type 0
Spends w v n = (size : WindowSize) (low : ℕ) (ms : List ℕ) → AgreesWith w size low ms → AgreesWith v size low (n ∷ ms)

pub spoiled_open : (g : Gate) (w v : Window) (l : Life) (n : ℕ) → g ≡ gates.Open w → GateAgrees g l → Spends w v n
    → GateAgrees (gates.Open v) (marked (Some (Spoiled n)) l)
spoiled_open g w v l n is agrees spends =
    let a : GateAgrees (gates.Open w) l = subst (λ x. GateAgrees x l) is agrees in
    (a.0, rw a.0 (spends l.size _ _ a.1))

pub delivered_open : (g : Gate) (w v : Window) (l : Life) (n : ℕ) → g ≡ gates.Open w → GateAgrees g l → Spends w v n
    → GateAgrees (gates.Open v) (marked (Some (Delivered n)) l)
delivered_open g w v l n is agrees spends =
    let a : GateAgrees (gates.Open w) l = subst (λ x. GateAgrees x l) is agrees in
    (refl, subst (λ f. AgreesWith v l.size f (n ∷ spent l.open_at_birth l.marks)) (sym (floor_open l.least l.open_at_birth l.marks n a.0)) (spends l.size _ _ a.1))

-- a gate that is opened
pub delivered_closed : (g new : Gate) (kept : Option (List ℕ × ℕ)) (size : WindowSize) (l : Life) (n : ℕ)
    → g ≡ gates.Restarted kept → GateAgrees g l → size ≡ l.size → IsOpenAnd new (λ w. AgreesWith w size n (n ∷ []))
    → GateAgrees new (marked (Some (Delivered n)) l)
delivered_closed g (gates.Restarted k) kept size l n is agrees same opens = absurd opens
delivered_closed g (gates.Open v) kept size l n is agrees same opens =
    let a : GateAgrees (gates.Restarted kept) l = subst (λ x. GateAgrees x l) is agrees in (
      refl,
      subst (λ f. AgreesWith v l.size f (n ∷ spent l.open_at_birth l.marks)) (sym (floor_closed l.least l.open_at_birth l.marks n a.0))
          (subst (λ ms. AgreesWith v l.size n (n ∷ ms)) (sym (closed_bare l.open_at_birth l.marks a.0).spent_is)
          (subst (λ z. AgreesWith v z n (n ∷ [])) same opens)),
    )
