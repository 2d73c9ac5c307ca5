-- The flag byte of some parts, taken apart and put together.
use Rattle.std.proofs.Common.{◌≡◌, ℕ, ◌+◌, ◌*◌, ◌/◌, ◌%◌, ◌≤◌, List, length, refl, arith, Option, Some, None, inl, inr, ◌⊎◌}
use Rattle.osc_context.specs.OscoreValue.{OscoreParts, piv_bytes, flag_if_some, flag_byte}
use Rattle.osc_context.proofs.PartialIvs.{iv_len}

-- a Partial IV has at most five bytes
pub piv_len : (o : Option ℕ) → length (piv_bytes o) ≤ 5
piv_len None = omega arith
piv_len (Some n) = (iv_len n).1

-- a part has its flag or none
pub flag_either : (k : ℕ) (o : Option (List ℕ)) → (flag_if_some k o ≡ 0) ⊎ (flag_if_some k o ≡ k)
flag_either k None = inl refl
flag_either k (Some x) = inr refl

-- the flag byte of some parts, taken apart
pub record IsFlag (f l a b : ℕ) : Type 0 where
  pub none_reserved : f / 32 ≡ 0
  pub len : f % 8 ≡ l
  pub kid : 8 * (f / 8 % 2) ≡ a
  pub context : 16 * (f / 16 % 2) ≡ b

-- a sum of a length and two flags comes apart again
flag_parts : (l a b : ℕ) → l ≤ 5 → (a ≡ 0) ⊎ (a ≡ 8) → (b ≡ 0) ⊎ (b ≡ 16) → IsFlag (l + (a + b)) l a b
flag_parts l a b le ha hb = elim ha [
  | inl ea ↦ elim hb [
    | inl eb ↦ record { none_reserved = omega arith; len = omega arith; kid = omega arith; context = omega arith }
    | inr eb ↦ record { none_reserved = omega arith; len = omega arith; kid = omega arith; context = omega arith }
  ]
  | inr ea ↦ elim hb [
    | inl eb ↦ record { none_reserved = omega arith; len = omega arith; kid = omega arith; context = omega arith }
    | inr eb ↦ record { none_reserved = omega arith; len = omega arith; kid = omega arith; context = omega arith }
  ]
]

-- the flag byte of some parts comes apart into them
pub flag_apart : (p : OscoreParts) → IsFlag (flag_byte p) (length (piv_bytes p.piv)) (flag_if_some 8 p.kid) (flag_if_some 16 p.kid_context)
flag_apart p = flag_parts _ _ _ (piv_len p.piv) (flag_either 8 p.kid) (flag_either 16 p.kid_context)

-- the bits of a flag byte make it whole
pub flag_joined : (f l a b : ℕ) → f / 32 ≡ 0 → l ≡ f % 8 → a ≡ 8 * (f / 8 % 2) → b ≡ 16 * (f / 16 % 2) → l + (a + b) ≡ f
flag_joined f l a b r hl ha hb = omega arith
