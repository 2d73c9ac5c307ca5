-- What a mask leaves unspent, and what a highest number and a mask leave to be taken. w is the number of places.
use Rattle.std.proofs.Common.{◌≡◌, ℕ, ◌+◌, ◌-◌, ◌*◌, ◌%◌, ◌^◌, ◌<◌, ◌≤◌, ◌∙◌, sym, ap, arith, add-zero, Bool, true, false, Some, ◌&&◌, ◌||◌, not, bit_or}
use Rattle.std.specs.Prelude.{nat_lt, ◌==◌}
use Rattle.std.specs.Int.{bit_at, w64}
use Rattle.std.proofs.lemmas.Nat.{and_mask, pow_pos}
use Rattle.std.proofs.lemmas.Nat.Bits.{bit_at_cat_low, bit_at_cat_high, bit_at-zero, bit_at_and, bit_at_ones, bit_at-lt, bit_at_set_same, bit_at_set_other}
use Rattle.std.proofs.lemmas.Bool.Decides.{nat_tests}
use Rattle.osc_window.specs.SpentMask.{unspent_at, taken_by}

-- ---- bits

-- the low bits of a shifted mask are empty
pub shifted_low : (mask k i : ℕ) → i < k → bit_at (mask * 2 ^ k) i ≡ 0
shifted_low mask k i h = ap (λ x. bit_at x i) (sym (add-zero (mask * 2 ^ k))) ∙ bit_at_cat_low mask k 0 i h ∙ bit_at-zero i

-- its high bits are those of the mask
pub shifted_high : (mask k i : ℕ) → k ≤ i → bit_at (mask * 2 ^ k) i ≡ bit_at mask (i - k)
shifted_high mask k i h = ap (λ x. bit_at x i) (sym (add-zero (mask * 2 ^ k))) ∙ bit_at_cat_high mask k 0 i (pow_pos k) h

-- a word keeps the bits below 64
pub kept_below : (x i : ℕ) → i < 64 → bit_at (x % 2 ^ 64) i ≡ bit_at x i
kept_below x i h =
    ap (λ y. bit_at y i) (sym (and_mask x 64)) ∙ bit_at_and x (2 ^ 64 - 1) i
    ∙ omega (arith, bit_at_ones 64 i h, bit_at-lt x i)

-- ---- what a mask leaves unspent

-- a bit that is set spends its number alone
pub unspent_set : (mask below other w : ℕ) → below < 64
    → unspent_at (bit_or mask (1 * 2 ^ below % 2 ^ 64)) other w ≡ (unspent_at mask other w && not (other == below))
unspent_set mask below other w h =
    grind (arith, nat_tests, bit_at_set_same w64 mask below, bit_at_set_other w64 mask below)

-- the lowest bit alone spends the highest number alone
pub unspent_one : (below w : ℕ) → unspent_at 1 below w ≡ (nat_lt 0 below && nat_lt below w)
unspent_one below w = grind (arith, nat_tests, bit_at_set_same w64 0 0, bit_at_set_other w64 0 0)

-- a mask that moves up, where the jump is within the window
pub unspent_near : (mask jump below w : ℕ) → 0 < jump → jump < w → w ≤ 64
    → unspent_at (bit_or (mask * 2 ^ jump % 2 ^ 64) 1) below w
    ≡ (nat_lt 0 below && nat_lt below w && (nat_lt below jump || unspent_at mask (below - jump) w))
unspent_near mask jump below w p q r =
    grind (
      arith,
      nat_tests,
      bit_at_set_same w64 (mask * 2 ^ jump % 2 ^ 64) 0,
      bit_at_set_other w64 (mask * 2 ^ jump % 2 ^ 64) 0,
      kept_below (mask * 2 ^ jump),
      shifted_low mask jump,
      shifted_high mask jump,
    )

-- a mask that starts anew, where the jump is beyond the window
pub unspent_far : (mask jump below w : ℕ) → w ≤ jump
    → unspent_at 1 below w ≡ (nat_lt 0 below && nat_lt below w && (nat_lt below jump || unspent_at mask (below - jump) w))
unspent_far mask jump below w p = unspent_one below w ∙ grind (arith, nat_tests)

-- a mask with every bit set leaves nothing unspent
pub unspent_full : (below w : ℕ) → w ≤ 64 → unspent_at 18446744073709551615 below w ≡ false
unspent_full below w h = grind (arith, nat_tests, bit_at_ones 64 below)

-- ---- what is taken once a number n is marked

-- what is left to be taken of what was, once n is marked
abbrev pub left_by : Bool → ℕ → ℕ → ℕ → Bool
left_by before w n m = before && not (m == n) && nat_lt n (m + w)

-- the first mark
pub first_mark : (w n m : ℕ) → 0 < w → taken_by (Some n) 1 w m ≡ left_by true w n m
first_mark w n m h = grind (arith, nat_tests, unspent_one (n - m) w)

-- a mark beyond the highest number
pub mark_beyond : (highest mask moved w n m : ℕ) → 0 < w → highest < n
    → ((below : ℕ) → unspent_at moved below w
    ≡ (nat_lt 0 below && nat_lt below w && (nat_lt below (n - highest) || unspent_at mask (below - (n - highest)) w)))
    → taken_by (Some n) moved w m ≡ left_by (taken_by (Some highest) mask w m) w n m
mark_beyond highest mask moved w n m some lt h =
    let e : m ≤ highest → (n - m) - (n - highest) ≡ highest - m = λ le. omega arith in
    grind (arith, nat_tests, h (n - m), e)

-- a mark at or below the highest number
pub mark_inside : (highest mask set w n m : ℕ) → n ≤ highest → highest < n + w
    → ((other : ℕ) → unspent_at set other w ≡ (unspent_at mask other w && not (other == highest - n)))
    → taken_by (Some highest) set w m ≡ left_by (taken_by (Some highest) mask w m) w n m
mark_inside highest mask set w n m le lt h = grind (arith, nat_tests, h (highest - m))

-- a number that is taken is less than w below the highest
pub taken_within : (highest mask w n : ℕ) → taken_by (Some highest) mask w n ≡ true → n ≤ highest → highest < n + w
taken_within highest mask w n h le = grind (arith, nat_tests)

-- a number above the highest is taken
pub taken_above : (highest mask w n : ℕ) → highest < n → taken_by (Some highest) mask w n ≡ true
taken_above highest mask w n h = grind (arith, nat_tests)

-- one that isn't above it is taken where its bit isn't set
pub taken_below : (highest mask w n : ℕ) → n ≤ highest → taken_by (Some highest) mask w n ≡ unspent_at mask (highest - n) w
taken_below highest mask w n h = grind (arith, nat_tests)

-- a full mask leaves the numbers above the highest alone
pub taken_full : (highest w n : ℕ) → w ≤ 64 → taken_by (Some highest) 18446744073709551615 w n ≡ nat_lt highest n
taken_full highest w n h = grind (arith, nat_tests, unspent_full (highest - n) w h)
