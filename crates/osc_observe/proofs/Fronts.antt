-- What stands at the front of a buffer.
use Rattle.std.proofs.Common.{◌≡◌, ℕ, ◌≤◌, arith, List, length, take, length-take}

pub front_fits : (n : ℕ) (new old : List ℕ) → length new ≡ length old → length (take n new) ≤ length old
front_fits n new old same = omega (arith, length-take n new, same)
