-- Periods, and what they give. t is a moment, ts are the moments before it, newest first.
use Rattle.std.proofs.Common.{◌≡◌, ℕ, suc, ◌≤◌, subst, arith, refl, Bool, true, false, Option, Some, None, List, [], ◌∷◌, if◌then◌else◌}
use Rattle.std.proofs.lemmas.Bool.{leb-true}
use Rattle.std.specs.Prelude.{◌+◌, nat_le}
use Rattle.osc_fresh.specs.Budgeting.{BudgetHolds, Periods, entered, given, gives, period_ms, periods, times}

record Holds (most : ℕ) (p : Periods) : Type 0 where
  used : p.used ≤ most
  granted : p.granted + most ≤ times p.begun most + p.used
  apart : p.first + times p.begun period_ms ≤ p.since + period_ms

given_holds : (most : ℕ) (p : Periods) (b : Bool) → gives most p ≡ b → Holds most p
    → Holds most (if b then record { first = p.first; since = p.since; used = p.used + 1; begun = p.begun; granted = p.granted + 1 } else p)
given_holds most p true e i =
    let l : suc p.used ≤ most = leb-true (suc p.used) most e in
    let g : p.granted + most ≤ times p.begun most + p.used = i.granted in
    record { used = omega (arith, l); granted = omega (arith, g); apart = i.apart }
given_holds most p false e i = i

later_holds : (most t : ℕ) (p : Periods) (b : Bool) → nat_le (p.since + period_ms) t ≡ b → Holds most p
    → Holds most (if b then record { first = p.first; since = t; used = 0; begun = suc p.begun; granted = p.granted } else p)
later_holds most t p true e i =
    let l : p.since + period_ms ≤ t = leb-true (p.since + period_ms) t e in
    let u : p.used ≤ most = i.used in
    let g : p.granted + most ≤ times p.begun most + p.used = i.granted in
    let a : p.first + times p.begun period_ms ≤ p.since + period_ms = i.apart in
    record { used = omega arith; granted = omega (arith, g, u); apart = omega (arith, a, l) }
later_holds most t p false e i = i

entered_holds : (most t : ℕ) (o : Option Periods) → ((q : Periods) → o ≡ Some q → Holds most q) → Holds most (entered t o)
entered_holds most t None i = record { used = omega arith; granted = omega arith; apart = omega arith }
entered_holds most t (Some q) i = later_holds most t q (nat_le (q.since + period_ms) t) refl (i q refl)

some_is : (p q : Periods) → Some p ≡ Some q → p ≡ q
some_is p q e = cc

holds : (most : ℕ) (ts : List ℕ) (p : Periods) → periods most ts ≡ Some p → Holds most p
holds most [] p e = let f : None ≡ Some p = e in cc
holds most (t ∷ ts) p e =
    let q : Periods = entered t (periods most ts) in
    subst (Holds most) (some_is (given most q) p e) (given_holds most q (gives most q) refl (entered_holds most t (periods most ts) (λ x f. holds most ts x f)))

pub budget_holds : BudgetHolds
budget_holds most ts p e =
    let i = holds most ts p e in
    let u : p.used ≤ most = i.used in
    let g : p.granted + most ≤ times p.begun most + p.used = i.granted in
    (omega (arith, u, g), i.apart)
