-- What is written is a value.
use Rattle.std.proofs.Common.{◌≡◌, ◌≢◌, ℕ, ◌<◌, ◌≤◌, ◌^◌, List, [], ◌∷◌, ◌++◌, length, sym, ap, ◌∙◌, arith, IfSome, inl, inr, append_assoc}
use Rattle.osc_context.specs.OscoreValue.{OscoreParts, piv_bytes, kid_context_bytes, kid_bytes, flag_byte, value_of, IsOscoreValue, most_len}
use Rattle.osc_context.specs.PrivateWords.{parts_len}
use Rattle.osc_context.proofs.FlagBytes.{piv_len}
use Rattle.osc_context.proofs.ValueParts.{spelled_value, empty_value, opened, closed, no_parts_len, value_len}
use Rattle.osc_context.proofs.Choices.{zero_or}

-- nothing is written where the flag byte is 0
pub written_empty : (p : OscoreParts) (bytes : List ℕ) → IfSome p.piv (λ n. n < 2 ^ 40) → flag_byte p ≡ 0 → bytes ≡ [] → IsOscoreValue p bytes
written_empty p bytes number z e = closed p bytes (record { number = number; whole = e ∙ sym (empty_value p z); fits = omega (arith, ap length e) })

-- the flag byte and the parts, one after the other
pub written_some : (p : OscoreParts) (a b c d : List ℕ) → IfSome p.piv (λ n. n < 2 ^ 40) → flag_byte p ≢ 0 → a ≡ flag_byte p ∷ [] → b ≡ a ++ piv_bytes p.piv
    → c ≡ b ++ kid_context_bytes p.kid_context → d ≡ c ++ kid_bytes p.kid → parts_len p ≤ 255 → IsOscoreValue p d
written_some p a b c d number n ea eb ec ed fits =
    let whole : d ≡ value_of p = written p a b c d n ea eb ec ed in
    closed p d (record { number = number; whole = whole; fits = omega (arith, ap length whole, value_len p n) })
  where
    written : (p : OscoreParts) (a b c d : List ℕ) → flag_byte p ≢ 0 → a ≡ flag_byte p ∷ [] → b ≡ a ++ piv_bytes p.piv → c ≡ b ++ kid_context_bytes p.kid_context → d ≡ c ++ kid_bytes p.kid → d ≡ value_of p
    written p a b c d n ea eb ec ed =
        ed ∙ ap (λ (l : List ℕ). l ++ kid_bytes p.kid) (ec ∙ ap (λ (l : List ℕ). l ++ kid_context_bytes p.kid_context) (eb ∙ ap (λ (l : List ℕ). l ++ piv_bytes p.piv) ea))
        ∙ ap (λ (l : List ℕ). flag_byte p ∷ l) (append_assoc (piv_bytes p.piv) (kid_context_bytes p.kid_context) (kid_bytes p.kid)) ∙ sym (spelled_value p n)

-- parts take no more than the longest number would
pub parts_len-most : (p : OscoreParts) → parts_len p ≤ most_len p
parts_len-most p = let short = piv_len p.piv in omega arith

-- a value is no longer than its flag byte and parts
length-value_of : (p : OscoreParts) → length (value_of p) ≤ parts_len p
length-value_of p = elim (zero_or (flag_byte p)) [
  | inl z ↦ omega (arith, ap length (empty_value p z))
  | inr n ↦ omega (arith, value_len p n)
]

-- what was written is no longer than its longest parts
pub length-value : (p : OscoreParts) (bytes : List ℕ) → IsOscoreValue p bytes → length bytes ≤ most_len p
length-value p bytes v =
    let le = length-value_of p in
    let most = parts_len-most p in
    omega (arith, ap length (opened p bytes v).whole)

-- parts that take more than 255 bytes have no value as short
pub long_value : (p : OscoreParts) → ¬ (parts_len p ≤ 255) → 255 < length (value_of p)
long_value p long = elim (zero_or (flag_byte p)) [
  | inl z ↦ let none = no_parts_len p z in absurd (long (omega arith))
  | inr n ↦ omega (arith, value_len p n)
]
