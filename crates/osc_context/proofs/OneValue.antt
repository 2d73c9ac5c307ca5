-- One spelling a value, one value a spelling.
use Rattle.std.proofs.Common.{◌≡◌, ℕ, ◌*◌, ◌/◌, ◌%◌, ◌<◌, ◌≤◌, ◌^◌, List, ◌∷◌, ◌++◌, length, drop, get_or, refl, sym, ap, ap₂, ◌∙◌, arith, Option, Some, None, IfSome, inl, inr}
use Rattle.osc_context.specs.PartialIv.{spelled_number}
use Rattle.osc_context.specs.OscoreValue.{OscoreParts, piv_bytes, kid_context_bytes, kid_bytes, flag_if_some, flag_byte, IsOscoreValue}
use Rattle.osc_context.proofs.PartialIvs.{iv_len, iv_number}
use Rattle.osc_context.proofs.FlagBytes.{flag_apart}
use Rattle.osc_context.proofs.ValueParts.{after_flag, IsValue, opened, flagged, no_parts}
use Rattle.osc_context.proofs.Choices.{same_front}

-- two numbers with one Partial IV are one
same_piv : (a b : Option ℕ) → IfSome a (λ n. n < 2 ^ 40) → IfSome b (λ n. n < 2 ^ 40) → piv_bytes a ≡ piv_bytes b → a ≡ b
same_piv None None ha hb e = refl
same_piv None (Some m) ha hb e = let l = (iv_len m).0 in absurd (omega (arith, ap length e))
same_piv (Some n) None ha hb e = let l = (iv_len n).0 in absurd (omega (arith, ap length e))
same_piv (Some n) (Some m) ha hb e = ap Some (sym (iv_number n ha) ∙ ap spelled_number e ∙ iv_number m hb)

-- two kid contexts that stand in front of one list
same_context : (a b : Option (List ℕ)) (c d : List ℕ) → flag_if_some 16 a ≡ flag_if_some 16 b → kid_context_bytes a ++ c ≡ kid_context_bytes b ++ d → (a ≡ b) × (c ≡ d)
same_context None None c d f e = (refl, e)
same_context None (Some y) c d f e = absurd (omega arith)
same_context (Some x) None c d f e = absurd (omega arith)
same_context (Some x) (Some y) c d f e =
    let l : length x ≡ length y = ap (λ (z : List ℕ). get_or z 0 0) e in
    let rest : x ++ c ≡ y ++ d = ap (drop 1) e in
    let both = same_front x y c d l rest in
    (ap Some both.0, both.1)

-- two kids with the same flag and bytes
same_kid : (a b : Option (List ℕ)) → flag_if_some 8 a ≡ flag_if_some 8 b → kid_bytes a ≡ kid_bytes b → a ≡ b
same_kid None None f e = refl
same_kid None (Some y) f e = absurd (omega arith)
same_kid (Some x) None f e = absurd (omega arith)
same_kid (Some x) (Some y) f e = ap Some e

-- two flag bytes that are one have one length and the same flags
same_flags : (p q : OscoreParts) → flag_byte p ≡ flag_byte q → (length (piv_bytes p.piv) ≡ length (piv_bytes q.piv)) × (flag_if_some 8 p.kid ≡ flag_if_some 8 q.kid) × (flag_if_some 16 p.kid_context ≡ flag_if_some 16 q.kid_context)
same_flags p q e =
    let a = flag_apart p in
    let b = flag_apart q in
    (sym a.len ∙ ap (λ (f : ℕ). f % 8) e ∙ b.len, sym a.kid ∙ ap (λ (f : ℕ). 8 * (f / 8 % 2)) e ∙ b.kid, sym a.context ∙ ap (λ (f : ℕ). 16 * (f / 16 % 2)) e ∙ b.context)

-- two parts with one flag byte and one rest are one
same_parts : (p q : OscoreParts) → IfSome p.piv (λ n. n < 2 ^ 40) → IfSome q.piv (λ n. n < 2 ^ 40) → flag_byte p ≡ flag_byte q → after_flag p ≡ after_flag q → p ≡ q
unfolding after_flag
same_parts p q hp hq ef ea =
    let flags = same_flags p q ef in
    let one = same_front (piv_bytes p.piv) (piv_bytes q.piv) _ _ flags.0 ea in
    let two = same_context p.kid_context q.kid_context (kid_bytes p.kid) (kid_bytes q.kid) flags.2 one.1 in
    joined p q (same_piv p.piv q.piv hp hq one.0) two.0 (same_kid p.kid q.kid flags.1 two.1)
  where
    joined : (p q : OscoreParts) → p.piv ≡ q.piv → p.kid_context ≡ q.kid_context → p.kid ≡ q.kid → p ≡ q
    joined p q a b c = ap₂ (λ (x : Option ℕ) (y : Option (List ℕ) × Option (List ℕ)). record { piv = x; kid_context = y.0; kid = y.1 }) a (ap₂ (λ (y z : Option (List ℕ)). (y, z)) b c)

-- a value says one thing
same_value : (p q : OscoreParts) (bytes : List ℕ) → IsValue p bytes → IsValue q bytes → p ≡ q
same_value p q bytes vp vq = elim (flagged p bytes vp) [
  | inl a ↦ elim (flagged q bytes vq) [
    | inl b ↦ same_parts p q vp.number vq.number (a.1 ∙ sym b.1) (no_parts p a.1 ∙ sym (no_parts q b.1))
    | inr b ↦ absurd (omega (arith, ap length (sym a.0 ∙ b.1)))
  ]
  | inr a ↦ elim (flagged q bytes vq) [
    | inl b ↦ absurd (omega (arith, ap length (sym b.0 ∙ a.1)))
    | inr b ↦ let e : flag_byte p ∷ after_flag p ≡ flag_byte q ∷ after_flag q = sym a.1 ∙ b.1 in
        same_parts p q vp.number vq.number (ap (λ (l : List ℕ). get_or l 0 0) e) (ap (drop 1) e)
  ]
]

-- a value says one thing
pub one_value : (p q : OscoreParts) (bytes : List ℕ) → IsOscoreValue p bytes → IsOscoreValue q bytes → p ≡ q
one_value p q bytes v w = same_value p q bytes (opened p bytes v) (opened q bytes w)

-- what a value says has one spelling
pub one_spelling : (p : OscoreParts) (b c : List ℕ) → IsOscoreValue p b → IsOscoreValue p c → b ≡ c
one_spelling p b c v w = (opened p b v).whole ∙ sym (opened p c w).whole

-- the number in a value is below 2 ^ 40
pub in_range : (p : OscoreParts) (bytes : List ℕ) → IsOscoreValue p bytes → IfSome p.piv (λ n. n < 2 ^ 40)
in_range p bytes v = (opened p bytes v).number

-- a value has at most 255 bytes
pub fits : (p : OscoreParts) (bytes : List ℕ) → IsOscoreValue p bytes → length bytes ≤ 255
fits p bytes v = (opened p bytes v).fits
