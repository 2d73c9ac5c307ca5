-- The bits of a mask of 64, and the numbers that they stand for. below is how far a number lies below the highest one.
use Rattle.std.proofs.Common.{◌≡◌, ℕ, ◌+◌, ◌-◌, ◌*◌, ◌%◌, ◌^◌, ◌<◌, ◌≤◌, ◌∙◌, arith, ◌&&◌, ◌||◌, not, bit_or, bit_and}
use Rattle.std.specs.Prelude.{nat_lt, nat_le, ◌==◌}
use Rattle.std.specs.Int.{bit_not, w64}
use Rattle.std.proofs.lemmas.Nat.Bits.{bit_at_set_same, bit_at_set_other, bit_at_clear_same, bit_at_clear_other}
use Rattle.std.proofs.lemmas.Bool.Decides.{nat_tests}
use Rattle.osc_window.proofs.Masks.{kept_below, shifted_high, shifted_low}
use Rattle.osc_handle.specs.UnansweredBytes.{has_bit}

pub bit_set : (mask below other : ℕ) → below < 64 → has_bit (bit_or mask (1 * 2 ^ below % 2 ^ 64)) other ≡ ((other == below) || has_bit mask other)
bit_set mask below other h = grind (arith, nat_tests, bit_at_set_same w64 mask below, bit_at_set_other w64 mask below)

pub bit_cleared : (mask below other : ℕ) → below < 64 → has_bit (bit_and mask (bit_not w64 (1 * 2 ^ below % 2 ^ 64))) other ≡ (not (other == below) && has_bit mask other)
bit_cleared mask below other h = grind (arith, nat_tests, bit_at_clear_same w64 mask below, bit_at_clear_other w64 mask below)

-- the lowest bit alone
lowest_bit : (below : ℕ) → has_bit 1 below ≡ (nat_lt below 64 && (below == 0))
lowest_bit below = grind (arith, nat_tests, bit_at_set_same w64 0 0, bit_at_set_other w64 0 0)

pub moved_near : (mask jump below : ℕ) → 0 < jump → jump < 64
    → has_bit (bit_or (mask * 2 ^ jump % 2 ^ 64) 1) below ≡ (nat_lt below 64 && ((below == 0) || (nat_le jump below && has_bit mask (below - jump))))
moved_near mask jump below p q =
    grind (
      arith,
      nat_tests,
      bit_at_set_same w64 (mask * 2 ^ jump % 2 ^ 64) 0,
      bit_at_set_other w64 (mask * 2 ^ jump % 2 ^ 64) 0,
      kept_below (mask * 2 ^ jump),
      shifted_low mask jump,
      shifted_high mask jump,
    )

pub moved_far : (mask jump below : ℕ) → 64 ≤ jump → has_bit 1 below ≡ (nat_lt below 64 && ((below == 0) || (nat_le jump below && has_bit mask (below - jump))))
moved_far mask jump below p = lowest_bit below ∙ grind (arith, nat_tests)

-- ---- numbers

-- a number above the highest one is added
pub added_above : (highest mask moved n m : ℕ) → highest < n
    → ((below : ℕ) → has_bit moved below ≡ (nat_lt below 64 && ((below == 0) || (nat_le (n - highest) below && has_bit mask (below - (n - highest))))))
    → (nat_le m n && has_bit moved (n - m)) ≡ ((m == n) || ((nat_le m highest && has_bit mask (highest - m)) && not (nat_le (m + 64) n)))
added_above highest mask moved n m lt h =
    let e : m ≤ highest → (n - m) - (n - highest) ≡ highest - m = λ le. omega arith in
    grind (arith, nat_tests, h (n - m), e)

-- one at or below it
pub added_inside : (highest mask set n m : ℕ) → n ≤ highest → highest < n + 64
    → ((other : ℕ) → has_bit set other ≡ ((other == highest - n) || has_bit mask other))
    → (nat_le m highest && has_bit set (highest - m)) ≡ ((m == n) || ((nat_le m highest && has_bit mask (highest - m)) && not (nat_le (m + 64) n)))
added_inside highest mask set n m le lt h = grind (arith, nat_tests, h (highest - m))

-- a number is taken out
pub removed_inside : (highest mask rest n m : ℕ) → n ≤ highest → ((other : ℕ) → has_bit rest other ≡ (not (other == highest - n) && has_bit mask other))
    → (nat_le m highest && has_bit rest (highest - m)) ≡ (not (m == n) && (nat_le m highest && has_bit mask (highest - m)))
removed_inside highest mask rest n m le h = grind (arith, nat_tests, h (highest - m))

-- one that isn't there
pub removed_outside : (highest mask n m : ℕ) → (n ≤ highest → 64 ≤ highest - n)
    → (nat_le m highest && has_bit mask (highest - m)) ≡ (not (m == n) && (nat_le m highest && has_bit mask (highest - m)))
removed_outside highest mask n m h = grind (arith, nat_tests)
