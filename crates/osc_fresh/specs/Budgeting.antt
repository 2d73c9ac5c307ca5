-- To be believed: how many numbers a budget gives (RFC 8613, 7.2.1 and B.1.2): at most `most` in a period, and periods begin at least 30,000 ms apart. t is a moment
-- at which a challenge wants a number, ts are the moments before it, newest first.
use Rattle.std.specs.Prelude.{◌≡◌, ℕ, Bool, zero, suc, ◌+◌, ◌≤◌, List, [], ◌∷◌, Option, Some, None, nat_le, nat_lt, if◌then◌else◌}

-- how long a period lasts at least, in milliseconds, as long as an Echo value is in force (own rule)
abbrev pub period_ms : ℕ
period_ms = 30000

-- when the first period began, and the present one, how many numbers this gave, how many periods began, and how many numbers all gave (own rule)
pub record Periods : Type 0 where
  pub first : ℕ
  pub since : ℕ
  pub used : ℕ
  pub begun : ℕ
  pub granted : ℕ

-- the period of a moment: the present one, or a new one that begins with it (own rule)
abbrev pub entered : ℕ → Option Periods → Periods
entered t None = record { first = t; since = t; used = 0; begun = 1; granted = 0 }
entered t (Some p) = if nat_le (p.since + period_ms) t then record { first = p.first; since = t; used = 0; begun = suc p.begun; granted = p.granted } else p

-- a period gives a number if it gave fewer than `most` (own rule)
abbrev pub gives : ℕ → Periods → Bool
gives most p = nat_lt p.used most

-- so it is after a number was wanted in this period (own rule)
abbrev pub given : ℕ → Periods → Periods
given most p = if gives most p then record { first = p.first; since = p.since; used = p.used + 1; begun = p.begun; granted = p.granted + 1 } else p

-- the periods after all moments at which a number was wanted (own rule)
abbrev pub periods : ℕ → List ℕ → Option Periods
periods most [] = None
periods most (t ∷ ts) = Some (given most (entered t (periods most ts)))

-- so many times as much (own rule)
abbrev pub times : ℕ → ℕ → ℕ
times zero x = 0
times (suc k) x = times k x + x

-- after k periods at most k times `most` numbers were given, and between the beginnings of the first and the last lie at least k - 1 periods (own rule)
abbrev pub BudgetHolds : Type 0
BudgetHolds = (most : ℕ) (ts : List ℕ) (p : Periods) → periods most ts ≡ Some p
    → (p.granted ≤ times p.begun most) × (p.first + times p.begun period_ms ≤ p.since + period_ms)
