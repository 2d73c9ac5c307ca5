-- Additional data is of one identifier and one number.
use Rattle.std.proofs.Common.{◌≡◌, ℕ, ◌+◌, ◌<◌, ◌≤◌, ◌^◌, List, [], ◌∷◌, ◌++◌, length, drop, get_or, sym, ap, ◌∙◌, arith}
use Rattle.std.proofs.lemmas.Bool.Decides.{nat_tests}
use Rattle.osc_context.specs.Cbor.{cbor_bytes}
use Rattle.osc_context.specs.PartialIv.{partial_iv_of, spelled_number}
use Rattle.osc_context.specs.AdditionalData.{external_aad_of, additional_data_of}
use Rattle.osc_context.proofs.PartialIvs.{iv_len, iv_number}
use Rattle.osc_context.proofs.KnownLengths.{length-external_aad_of}
use Rattle.osc_context.proofs.Choices.{same_front}

-- a short byte string begins with one byte that tells its length
short_string : (bytes : List ℕ) → length bytes < 24 → cbor_bytes bytes ≡ (0x40 + length bytes) ∷ bytes
short_string bytes lt = grind (arith, nat_tests)

-- two lists that begin with short byte strings
same_string : (a b x y : List ℕ) → length a < 24 → length b < 24 → cbor_bytes a ++ x ≡ cbor_bytes b ++ y → (a ≡ b) × (x ≡ y)
same_string a b x y la lb e =
    let f : ((0x40 + length a) ∷ a) ++ x ≡ ((0x40 + length b) ∷ b) ++ y =
    sym (ap (λ z. z ++ x) (short_string a la)) ∙ e ∙ ap (λ z. z ++ y) (short_string b lb) in
    let h : 0x40 + length a ≡ 0x40 + length b = ap (λ (l : List ℕ). get_or l 0 0) f in
    same_front a b x y (omega (arith, h)) (ap (drop 1) f)

-- the inner array is of one identifier and one number
external_aad_once : (a b : List ℕ) (n m : ℕ) → length a ≤ 7 → length b ≤ 7 → n < 2 ^ 40 → m < 2 ^ 40
    → external_aad_of a n ≡ external_aad_of b m → (a ≡ b) × (n ≡ m)
external_aad_once a b n m la lb ln lm e =
    let p = iv_len n in
    let q = iv_len m in
    let f = same_string a b (cbor_bytes (partial_iv_of n) ++ (cbor_bytes [] ++ [])) (cbor_bytes (partial_iv_of m) ++ (cbor_bytes [] ++ [])) (omega arith) (omega arith) (ap (drop 4) e) in
    let g = same_string (partial_iv_of n) (partial_iv_of m) (cbor_bytes [] ++ []) (cbor_bytes [] ++ []) (omega (arith, p.1)) (omega (arith, q.1)) f.1 in
    (f.0, sym (iv_number n ln) ∙ ap spelled_number g.0 ∙ iv_number m lm)

-- so is the outer one
pub additional_data_once : (a b : List ℕ) (n m : ℕ) → length a ≤ 7 → length b ≤ 7 → n < 2 ^ 40 → m < 2 ^ 40
    → additional_data_of a n ≡ additional_data_of b m → (a ≡ b) × (n ≡ m)
unfolding additional_data_of
additional_data_once a b n m la lb ln lm e =
    let p = iv_len n in
    let q = iv_len m in
    let i = length-external_aad_of a n la in
    let j = length-external_aad_of b m lb in
    let f = same_string (external_aad_of a n) (external_aad_of b m) [] [] (omega (arith, i, p.1)) (omega (arith, j, q.1)) (ap (drop 11) e) in
    external_aad_once a b n m la lb ln lm f.0
