-- A value of the OSCORE option: its flag byte and what follows.
use Rattle.std.proofs.Common.{◌≡◌, ◌≢◌, ℕ, ◌+◌, ◌<◌, ◌≤◌, ◌^◌, List, [], ◌∷◌, ◌++◌, length, refl, sym, ap, ◌∙◌, arith, length-append, Option, Some, None, IfSome, eqb, false, inl, inr, ◌⊎◌, eq-eqb}
use Rattle.std.proofs.lemmas.Bool.Decides.{nat_tests}
use Rattle.osc_context.specs.OscoreValue.{OscoreParts, piv_bytes, kid_context_bytes, kid_bytes, flag_if_some, flag_byte, value_of, IsOscoreValue}
use Rattle.osc_context.proofs.PartialIvs.{iv_len}
use Rattle.osc_context.proofs.Choices.{zero_or}

-- what follows the flag byte
unfoldable pub after_flag : OscoreParts → List ℕ
after_flag p = piv_bytes p.piv ++ (kid_context_bytes p.kid_context ++ kid_bytes p.kid)

-- a value whose flag byte is not 0
pub spelled_value : (p : OscoreParts) → flag_byte p ≢ 0 → value_of p ≡ flag_byte p ∷ (piv_bytes p.piv ++ (kid_context_bytes p.kid_context ++ kid_bytes p.kid))
unfolding value_of
spelled_value p n = let e : eqb (flag_byte p) 0 ≡ false = grind (arith, nat_tests) in rw e refl

-- a value whose flag byte is 0
pub empty_value : (p : OscoreParts) → flag_byte p ≡ 0 → value_of p ≡ []
unfolding value_of
empty_value p z = rw (eq-eqb _ _ z) refl

-- what holds of a value and the parts that it says
pub record IsValue (p : OscoreParts) (bytes : List ℕ) : Type 0 where
  pub number : IfSome p.piv (λ n. n < 2 ^ 40)
  pub whole : bytes ≡ value_of p
  pub fits : length bytes ≤ 255

-- what the definition of a value says
pub opened : (p : OscoreParts) (bytes : List ℕ) → IsOscoreValue p bytes → IsValue p bytes
unfolding IsOscoreValue
opened p bytes v = record { number = v.0; whole = v.1; fits = v.2 }

-- what makes a value by definition
pub closed : (p : OscoreParts) (bytes : List ℕ) → IsValue p bytes → IsOscoreValue p bytes
unfolding IsOscoreValue
closed p bytes v = (v.number, v.whole, v.fits)

-- a value that is not empty, with the flag byte apart
pub flagged : (p : OscoreParts) (bytes : List ℕ) → IsValue p bytes → ((bytes ≡ []) × (flag_byte p ≡ 0)) ⊎ ((flag_byte p ≢ 0) × (bytes ≡ flag_byte p ∷ after_flag p))
unfolding after_flag
flagged p bytes v = elim (zero_or (flag_byte p)) [
  | inl z ↦ inl (v.whole ∙ empty_value p z, z)
  | inr n ↦ inr (n, v.whole ∙ spelled_value p n)
]

-- parts whose flag byte is 0 are none
pub no_parts : (p : OscoreParts) → flag_byte p ≡ 0 → after_flag p ≡ []
unfolding after_flag
no_parts p z = nothing p.piv p.kid_context p.kid z
  where
    nothing : (a : Option ℕ) (b c : Option (List ℕ)) → length (piv_bytes a) + (flag_if_some 8 c + flag_if_some 16 b) ≡ 0 → piv_bytes a ++ (kid_context_bytes b ++ kid_bytes c) ≡ []
    nothing None None None z = refl
    nothing (Some n) b c z = let l = (iv_len n).0 in absurd (omega arith)
    nothing None (Some y) c z = absurd (omega arith)
    nothing None None (Some x) z = absurd (omega arith)

-- no parts take no bytes
pub no_parts_len : (p : OscoreParts) → flag_byte p ≡ 0 → length (piv_bytes p.piv) + length (kid_context_bytes p.kid_context) + length (kid_bytes p.kid) ≡ 0
unfolding after_flag
no_parts_len p z = let none = ap length (no_parts p z) in omega (arith, none, length-append (piv_bytes p.piv) (kid_context_bytes p.kid_context ++ kid_bytes p.kid), length-append (kid_context_bytes p.kid_context) (kid_bytes p.kid))

-- the bytes of a value that is not empty
pub value_len : (p : OscoreParts) → flag_byte p ≢ 0 → length (value_of p) ≡ 1 + length (piv_bytes p.piv) + length (kid_context_bytes p.kid_context) + length (kid_bytes p.kid)
value_len p n = ap length (spelled_value p n) ∙ omega (arith, length-append (piv_bytes p.piv) (kid_context_bytes p.kid_context ++ kid_bytes p.kid), length-append (kid_context_bytes p.kid_context) (kid_bytes p.kid))

-- no bytes are the value that says nothing
pub no_value : (bytes : List ℕ) → length bytes < 1 → IsOscoreValue (record { piv = None; kid_context = None; kid = None }) bytes
no_value [] h = closed _ _ (record { number = tt; whole = sym (empty_value (record { piv = None; kid_context = None; kid = None }) refl); fits = omega arith })
no_value (x ∷ bytes) h = absurd (omega arith)
