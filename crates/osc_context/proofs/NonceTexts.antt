-- Nonces: how the code fills the bytes, and that a nonce is of one identifier and number.
use Rattle.std.proofs.Common.{◌≡◌, ℕ, zero, suc, ◌+◌, ◌-◌, ◌<◌, ◌≤◌, ◌^◌, List, [], ◌∷◌, ◌++◌, length, take, drop, get_or, refl, sym, ap, ap₂, ◌∙◌, arith, replicate, length-append, bit_xor, ext_get_or, append_assoc, append-nil}
use Rattle.std.proofs.lemmas.List.{drop_all, length-replicate}
use Rattle.std.proofs.lemmas.List.FromFn.{get_or-map-range_with_len}
use Rattle.std.proofs.Math.Seq.{take-append-add}
use Rattle.std.specs.Int.Bits.{xor_assoc, xor_self, xor_zero_l}
use Rattle.osc_context.specs.PartialIv.{partial_iv_of, spelled_number}
use Rattle.osc_context.specs.Nonce.{padded, nonce_text, nonce_of}
use Rattle.osc_context.proofs.PartialIvs.{iv_padded, iv_len, number_last}
use Rattle.osc_context.proofs.Choices.{same_front}

-- ---- how the code fills the bytes

-- the front of a text that was not written yet
front_zeros : (x k : ℕ) → k ≤ 7 → take {A = ℕ} (8 - k) (x ∷ 0 ∷ 0 ∷ 0 ∷ 0 ∷ 0 ∷ 0 ∷ 0 ∷ 0 ∷ 0 ∷ 0 ∷ 0 ∷ 0 ∷ []) ≡ x ∷ replicate (7 - k) 0
front_zeros x zero le = refl
front_zeros x (suc zero) le = refl
front_zeros x (suc (suc zero)) le = refl
front_zeros x (suc (suc (suc zero))) le = refl
front_zeros x (suc (suc (suc (suc zero)))) le = refl
front_zeros x (suc (suc (suc (suc (suc zero))))) le = refl
front_zeros x (suc (suc (suc (suc (suc (suc zero)))))) le = refl
front_zeros x (suc (suc (suc (suc (suc (suc (suc zero))))))) le = refl
front_zeros x (suc (suc (suc (suc (suc (suc (suc (suc k)))))))) le = absurd (omega arith)

-- the zeros in front of the Partial IV
back_zeros : (m : ℕ) → m ≤ 5 → take {A = ℕ} (5 - m) (0 ∷ 0 ∷ 0 ∷ 0 ∷ 0 ∷ []) ≡ replicate (5 - m) 0
back_zeros zero le = refl
back_zeros (suc zero) le = refl
back_zeros (suc (suc zero)) le = refl
back_zeros (suc (suc (suc zero))) le = refl
back_zeros (suc (suc (suc (suc zero)))) le = refl
back_zeros (suc (suc (suc (suc (suc zero))))) le = refl
back_zeros (suc (suc (suc (suc (suc (suc m)))))) le = absurd (omega arith)

-- what the two copies make of zeros
pub text_put : (id piv t0 t1 t2 : List ℕ) → length id ≤ 7 → length piv ≤ 5
    → t0 ≡ length id ∷ 0 ∷ 0 ∷ 0 ∷ 0 ∷ 0 ∷ 0 ∷ 0 ∷ 0 ∷ 0 ∷ 0 ∷ 0 ∷ 0 ∷ []
    → t1 ≡ take (8 - length id) t0 ++ (id ++ drop 8 t0)
    → t2 ≡ take (13 - length piv) t1 ++ (piv ++ drop 13 t1)
    → t2 ≡ length id ∷ (padded 7 id ++ padded 5 piv)
text_put id piv t0 t1 t2 short few e0 e1 e2 =
    let zeros : List ℕ = 0 ∷ 0 ∷ 0 ∷ 0 ∷ 0 ∷ [] in
    let front : List ℕ = length id ∷ (replicate (7 - length id) 0 ++ id) in
    let long : length front ≡ 8 = omega (arith, length-append (replicate (7 - length id) 0) id, length-replicate {A = ℕ} (7 - length id) 0) in
    let first : t1 ≡ front ++ zeros =
    e1 ∙ ap (λ (t : List ℕ). take (8 - length id) t ++ (id ++ drop 8 t)) e0
    ∙ ap (λ (t : List ℕ). t ++ (id ++ zeros)) (front_zeros (length id) (length id) short)
    ∙ ap (λ (t : List ℕ). length id ∷ t) (sym (append_assoc (replicate (7 - length id) 0) id zeros)) in
    let count : 13 - length piv ≡ length front + (5 - length piv) = omega (arith, long) in
    let left : take (13 - length piv) t1 ≡ front ++ replicate (5 - length piv) 0 =
    ap₂ (λ (n : ℕ) (t : List ℕ). take n t) count first ∙ take-append-add front zeros (5 - length piv)
    ∙ ap (λ (t : List ℕ). front ++ t) (back_zeros (length piv) few) in
    let right : drop 13 t1 ≡ [] = drop_all 13 t1 (omega (arith, ap length first, length-append front zeros, long)) in
    e2 ∙ ap₂ (λ (s t : List ℕ). s ++ (piv ++ t)) left right
    ∙ ap (λ (t : List ℕ). (front ++ replicate (5 - length piv) 0) ++ t) (append-nil piv)
    ∙ append_assoc front (replicate (5 - length piv) 0) piv

-- ---- one nonce, one identifier and number

-- padded bytes are as long as the width
pub length-padded : (w : ℕ) (bytes : List ℕ) → length bytes ≤ w → length (padded w bytes) ≡ w
length-padded w bytes le = length-append (replicate (w - length bytes) 0) bytes ∙ omega (arith, length-replicate {A = ℕ} (w - length bytes) 0)

-- a text has 13 bytes
pub length-nonce_text : (id : List ℕ) (n : ℕ) → length id ≤ 7 → length (nonce_text id n) ≡ 13
length-nonce_text id n le =
    let a = length-padded 7 id le in
    let b = length-padded 5 (partial_iv_of n) (iv_len n).1 in
    ap suc (length-append (padded 7 id) (padded 5 (partial_iv_of n))) ∙ omega (arith, a, b)

-- a second xor takes the first back
xor_back : (x y : ℕ) → bit_xor x (bit_xor x y) ≡ y
xor_back x y = sym (xor_assoc x x y) ∙ ap (λ (z : ℕ). bit_xor z y) (xor_self x) ∙ xor_zero_l y

-- one byte of a nonce
nonce_at : (iv id : List ℕ) (n k : ℕ) → k < 13 → get_or (nonce_of iv id n) k 0 ≡ bit_xor (get_or iv k 0) (get_or (nonce_text id n) k 0)
unfolding nonce_of
nonce_at iv id n k lt = get_or-map-range_with_len (λ i. bit_xor (get_or iv i 0) (get_or (nonce_text id n) i 0)) 0 13 k k 0 lt (omega arith)

-- one nonce under one Common IV has one text
same_text : (iv a b : List ℕ) (n m : ℕ) → length a ≤ 7 → length b ≤ 7 → nonce_of iv a n ≡ nonce_of iv b m → nonce_text a n ≡ nonce_text b m
same_text iv a b n m la lb e =
    let p = length-nonce_text a n la in
    let q = length-nonce_text b m lb in
    ext_get_or 0 (nonce_text a n) (nonce_text b m) (p ∙ sym q) (λ k lt.
    let small : k < 13 = omega (arith, p) in
    let both : bit_xor (get_or iv k 0) (get_or (nonce_text a n) k 0) ≡ bit_xor (get_or iv k 0) (get_or (nonce_text b m) k 0) =
    sym (nonce_at iv a n k small) ∙ ap (λ (l : List ℕ). get_or l k 0) e ∙ nonce_at iv b m k small in
    sym (xor_back (get_or iv k 0) (get_or (nonce_text a n) k 0)) ∙ ap (bit_xor (get_or iv k 0)) both ∙ xor_back (get_or iv k 0) (get_or (nonce_text b m) k 0))

-- one nonce under one Common IV is of one identifier and one number
pub nonce_once : (iv a b : List ℕ) (n m : ℕ) → length a ≤ 7 → length b ≤ 7 → n < 2 ^ 40 → m < 2 ^ 40 → nonce_of iv a n ≡ nonce_of iv b m → (a ≡ b) × (n ≡ m)
nonce_once iv a b n m la lb ln lm e =
    let text = same_text iv a b n m la lb e in
    let lens : length a ≡ length b = ap (λ (l : List ℕ). get_or l 0 0) text in
    let rest : padded 7 a ++ padded 5 (partial_iv_of n) ≡ padded 7 b ++ padded 5 (partial_iv_of m) = ap (drop 1) text in
    let both = same_front (padded 7 a) (padded 7 b) _ _ (length-padded 7 a la ∙ sym (length-padded 7 b lb)) rest in
    let zeros : length (replicate {A = ℕ} (7 - length a) 0) ≡ length (replicate {A = ℕ} (7 - length b) 0) = ap (λ (k : ℕ). length (replicate {A = ℕ} (7 - k) 0)) lens in
    ((same_front (replicate (7 - length a) 0) (replicate (7 - length b) 0) a b zeros both.0).1, sym (number_last n ln) ∙ ap spelled_number (sym (iv_padded n) ∙ both.1 ∙ iv_padded m) ∙ number_last m lm)
