-- How large a number of few bytes is.
use Rattle.std.proofs.Common.{ℕ, ◌^◌, ◌≤◌, lit≤}
use Rattle.std.proofs.Math.Nat.{pow-le-pow_right}

-- three bytes hold numbers below 2 ^ 24
pub power_small : (i : ℕ) → i ≤ 3 → 256 ^ i ≤ 16777216
power_small i le = pow-le-pow_right {n = 256} (lit≤ tt) le
