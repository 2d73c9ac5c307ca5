-- The bits of the flag byte.
use Rattle.std.proofs.Common.{◌≡◌, ℕ, ◌*◌, ◌/◌, ◌%◌, bit_and, arith}
use Rattle.std.proofs.lemmas.Nat.Bits.{and_high}

-- the mask of the kid flag
pub mask_kid : (n : ℕ) → bit_and n 8 ≡ 8 * (n / 8 % 2)
mask_kid n = let e : bit_and n 8 ≡ (n / 8 % 2) * 8 = and_high n 1 3 in omega (arith, e)

-- the mask of the kid context flag
pub mask_kid_context : (n : ℕ) → bit_and n 16 ≡ 16 * (n / 16 % 2)
mask_kid_context n = let e : bit_and n 16 ≡ (n / 16 % 2) * 16 = and_high n 1 4 in omega (arith, e)
