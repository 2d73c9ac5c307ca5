-- Differences gathered by `or`: zero exactly where there is none.
use Rattle.std.proofs.Common.{◌≡◌, ◌∙◌, sym, ap, ap₂, arith, bit_or, bit_xor, ℕ}
use Rattle.std.proofs.lemmas.Nat.{le_or_l, le_or_r}
use lib.Bits.{xor_assoc, xor_self, xor_zero_r}

no_difference : (x y : ℕ) → bit_xor x y ≡ 0 → x ≡ y
no_difference x y e = sym (xor_assoc x y y ∙ ap (bit_xor x) (xor_self y) ∙ xor_zero_r x) ∙ ap (λ (z : ℕ). bit_xor z y) e

pub gathered_before : (d x y : ℕ) → bit_or d (bit_xor x y) ≡ 0 → d ≡ 0
gathered_before d x y e = omega (arith, le_or_l d (bit_xor x y))

pub gathered_last : (d x y : ℕ) → bit_or d (bit_xor x y) ≡ 0 → x ≡ y
gathered_last d x y e = no_difference x y (omega (arith, le_or_r d (bit_xor x y)))

pub gathered_nothing : (d x y : ℕ) → d ≡ 0 → x ≡ y → bit_or d (bit_xor x y) ≡ 0
gathered_nothing d x y ed e = ap₂ bit_or ed (ap (λ (z : ℕ). bit_xor z y) e ∙ xor_self y)
