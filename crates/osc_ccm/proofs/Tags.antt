-- Differences gathered by `or`: zero exactly where there is none.
use Rattle.std.proofs.Common.{◌≡◌, ℕ, bit_xor, bit_or, ap, ap₂, ◌∙◌, sym, arith}
use Rattle.std.proofs.lemmas.Nat.{le_or_l, le_or_r}
use lib.Bits.{xor_self}
use Rattle.osc_ccm.proofs.Xor.{xor_twice}

-- numbers without a difference are equal
pub no_difference : (x y : ℕ) → bit_xor x y ≡ 0 → x ≡ y
no_difference x y e = sym (xor_twice x y) ∙ ap (λ (z : ℕ). bit_xor z y) e

-- what was gathered is zero only if each part is
pub gathered_before : (d x y : ℕ) → bit_or d (bit_xor x y) ≡ 0 → d ≡ 0
gathered_before d x y e = omega (arith, le_or_l d (bit_xor x y))

-- and the last two were equal
pub gathered_last : (d x y : ℕ) → bit_or d (bit_xor x y) ≡ 0 → x ≡ y
gathered_last d x y e = no_difference x y (omega (arith, le_or_r d (bit_xor x y)))

-- nothing is gathered of equal numbers
pub gathered_nothing : (d x y : ℕ) → d ≡ 0 → x ≡ y → bit_or d (bit_xor x y) ≡ 0
gathered_nothing d x y ed e = ap₂ bit_or ed (ap (λ (z : ℕ). bit_xor z y) e ∙ xor_self y)
