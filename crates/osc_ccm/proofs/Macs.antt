-- The blocks of the tag: the first of the additional data, and all in turn.
use Rattle.std.proofs.Common.{◌≡◌, ℕ, zero, suc, ◌+◌, ◌-◌, ◌/◌, ◌%◌, ◌<◌, min, List, [], ◌∷◌, ◌++◌, length, get_or, take, drop, fold, map, replicate, bit_xor, refl, ap, ap₂, ◌∙◌, sym, arith, inl, inr, get_or-take, length-append}
use Rattle.std.proofs.lemmas.Bool.{cases_lt}
use Rattle.std.proofs.lemmas.List.{get_or_past, drop_min, take_rest, length-take-le, take_all, get_or_append_left, get_or-append_right, get_or-replicate, drop-drop, drop-replicate, length-replicate}
use Rattle.std.proofs.lemmas.List.Sums.{fold-append}
use Rattle.std.proofs.lemmas.Slice.{put_mid-paste}
use borrow.Rule.Slice.PartMut.{put_mid}
use Rattle.std.specs.List.{range_with_len}
use Rattle.osc_aes.specs.Aes128.{BlockKeepsItsLength}
use Rattle.osc_ccm.specs.Ccm.{block_count, encoded_aad, encrypted_tag, first_block, flags_of, mac_blocks, mac_of, mac_step, padded_block, padded_blocks, stream_block, two_bytes, xor_bytes}
use Rattle.osc_ccm.proofs.PaddedBlocks.{absorb_end, is_padded_block, padded_blocks-cons, padded_whole}
use Rattle.osc_ccm.proofs.Xor.{is_xor_bytes}

-- additional data that is there, behind its length
encoded_is : (aad : List ℕ) → 0 < length aad → encoded_aad aad ≡ two_bytes (length aad) ++ aad
encoded_is [] h = absurd (omega arith)
encoded_is (a ∷ rest) h = refl

-- the flags, by whether there is additional data
pub flags_some : (aad : List ℕ) → 0 < length aad → flags_of aad ≡ 0x59
flags_some [] h = absurd (omega arith)
flags_some (a ∷ rest) h = refl

-- the flags without additional data
pub flags_none : (aad : List ℕ) → length aad ≡ 0 → flags_of aad ≡ 0x19
flags_none [] h = refl
flags_none (a ∷ rest) h = absurd (omega arith)

-- the zeros behind what was written
zeros_left : (high low taken : ℕ) → drop (2 + taken) (high ∷ low ∷ replicate 14 0) ≡ replicate (14 - taken) 0
zeros_left high low taken =
    sym (drop-drop taken 2 (high ∷ low ∷ replicate 14 0)) ∙ drop-replicate {X = ℕ} taken 14 0

-- two bytes, the front of the additional data, and zeros: place by place
module _ (high low taken : ℕ) (aad : List ℕ) (et : taken ≡ min (length aad) 14) where
  -- the front has as many bytes as were taken
  long_taken : length (take taken aad) ≡ taken
  long_taken = length-take-le taken aad (omega arith)

  -- behind the length
  aad_text-place : (j : ℕ) → j < 14 → get_or (take taken aad ++ replicate (14 - taken) 0) j 0 ≡ get_or aad j 0
  aad_text-place j lt = elim (cases_lt j taken) [
    | inl front ↦
        get_or_append_left (take taken aad) (replicate (14 - taken) 0) 0 j (omega (arith, long_taken)) ∙ get_or-take taken aad j 0 front
    | inr back ↦
        get_or-append_right (take taken aad) (replicate (14 - taken) 0) taken j 0 long_taken back
        ∙ get_or-replicate (14 - taken) (j - taken) 0 0 (omega arith)
        ∙ sym (get_or_past aad j 0 (omega arith))
  ]

  -- in the whole block
  aad_place : (k : ℕ) → k < 16 → get_or (high ∷ low ∷ (take taken aad ++ replicate (14 - taken) 0)) k 0 ≡ get_or (high ∷ low ∷ aad) k 0
  aad_place zero lt = refl
  aad_place (suc zero) lt = refl
  aad_place (suc (suc j)) lt = aad_text-place j (omega arith)

  -- the first block of the additional data
  pub aad_block_is : high ∷ low ∷ (take taken aad ++ replicate (14 - taken) 0) ≡ padded_block (high ∷ low ∷ aad) 0
  aad_block_is =
      is_padded_block (high ∷ low ∷ (take taken aad ++ replicate (14 - taken) 0)) (high ∷ low ∷ aad)
      (omega (arith, length-append (take taken aad) (replicate (14 - taken) 0), long_taken, length-replicate {A = ℕ} (14 - taken) 0)) aad_place

-- the same written into a block of zeros behind the length
pub aad_block_put : (high low taken k : ℕ) (aad ys : List ℕ) → taken ≡ min (length aad) 14 → k ≡ taken → ys ≡ take taken aad
    → high ≡ length aad / 256 → low ≡ length aad % 256
    → put_mid 2 k (high ∷ low ∷ replicate 14 0) ys ≡ padded_block (two_bytes (length aad) ++ aad) 0
aad_block_put high low taken k aad ys et ek ey eh el =
    let long : length ys ≡ taken = ap (λ (l : List ℕ). length l) ey ∙ length-take-le taken aad (omega arith) in
    put_mid-paste 2 k (high ∷ low ∷ replicate 14 0) ys ys taken refl (sym ek) (sym long)
    ∙ ap₂ (λ (a b : List ℕ). high ∷ low ∷ (a ++ b)) (take_all taken ys (omega arith) ∙ ey) (zeros_left high low taken)
    ∙ aad_block_is high low taken aad et
    ∙ ap₂ (λ (a b : ℕ). padded_block (a ∷ b ∷ aad) 0) eh el

-- the additional data absorbed
pub absorbed_aad : (key x0 x1 x2 aad block : List ℕ) (taken : ℕ) → 0 < length aad → taken ≡ min (length aad) 14
    → block ≡ padded_block (two_bytes (length aad) ++ aad) 0 → x1 ≡ mac_step key x0 (padded_block block 0)
    → x2 ≡ fold (mac_step key) x1 (padded_blocks (take (length aad - taken) (drop taken aad)))
    → x2 ≡ fold (mac_step key) x0 (padded_blocks (encoded_aad aad))
absorbed_aad key x0 x1 x2 aad block taken some et eb e1 e2 =
    let xs : List ℕ = two_bytes (length aad) ++ aad in
    let step = mac_step key in
    let long : length block ≡ 16 = ap (λ (l : List ℕ). length l) eb in
    let same : taken ≡ min 14 (length aad) = omega arith in
    let left : take (length aad - taken) (drop taken aad) ≡ drop 14 aad = take_rest aad taken ∙ ap (λ (n : ℕ). drop n aad) same ∙ drop_min 14 aad in
    e2
    ∙ ap₂ (fold step) (e1 ∙ ap (step x0) (padded_whole block long ∙ eb)) (ap padded_blocks left)
    ∙ ap (fold step x0) (sym (padded_blocks-cons xs (omega arith)))
    ∙ ap (λ (l : List ℕ). fold step x0 (padded_blocks l)) (sym (encoded_is aad some))

-- the first block and the additional data absorbed
pub begun_is : (key nonce aad m first x1 x2 : List ℕ) → length first ≡ 16 → first ≡ first_block nonce aad m
    → x1 ≡ mac_step key (replicate 16 0) (padded_block first 0) → x2 ≡ fold (mac_step key) x1 (padded_blocks (encoded_aad aad))
    → x2 ≡ fold (mac_step key) (mac_step key (replicate 16 0) (first_block nonce aad m)) (padded_blocks (encoded_aad aad))
begun_is key nonce aad m first x1 x2 long ef e1 e2 =
    let step = mac_step key in
    e2 ∙ ap (λ (x : List ℕ). fold step x (padded_blocks (encoded_aad aad))) (e1 ∙ ap (step (replicate 16 0)) (padded_whole first long ∙ ef))

-- all blocks absorbed
mac_is : (key nonce aad m x2 x3 : List ℕ)
    → x2 ≡ fold (mac_step key) (mac_step key (replicate 16 0) (first_block nonce aad m)) (padded_blocks (encoded_aad aad))
    → x3 ≡ fold (mac_step key) x2 (padded_blocks m) → x3 ≡ mac_of key nonce aad m
unfolding mac_of
mac_is key nonce aad m x2 x3 e2 e3 =
    let step = mac_step key in
    e3 ∙ ap (λ (x : List ℕ). fold step x (padded_blocks m)) e2
    ∙ sym (fold-append step (step (replicate 16 0) (first_block nonce aad m)) (padded_blocks (encoded_aad aad)) (padded_blocks m))

-- a fold of blocks is a block
length-fold : BlockKeepsItsLength → (key x : List ℕ) (blocks : List (List ℕ)) → length x ≡ 16 → length (fold (mac_step key) x blocks) ≡ 16
length-fold whole key x [] long = long
length-fold whole key x (b ∷ blocks) long = length-fold whole key (mac_step key x b) blocks (whole key (xor_bytes x b))

-- the last state is a block
pub length-mac_of : BlockKeepsItsLength → (key nonce aad m : List ℕ) → length (mac_of key nonce aad m) ≡ 16
unfolding mac_of
length-mac_of whole key nonce aad m = length-fold whole key (replicate 16 0) (mac_blocks nonce aad m) refl

-- the fronts of two blocks added byte by byte
pub fronts_added : (x s tag : List ℕ) → length x ≡ 16 → length s ≡ 16 → length tag ≡ 8
    → ((k : ℕ) → k < 8 → get_or tag k 0 ≡ bit_xor (get_or x k 0) (get_or s k 0)) → tag ≡ xor_bytes (take 8 x) (take 8 s)
fronts_added x s tag lx ls lt at =
    let tx = length-take-le 8 x (omega arith) in
    let ts = length-take-le 8 s (omega arith) in
    is_xor_bytes (take 8 x) (take 8 s) tag (omega (arith, tx, ts)) (omega (arith, tx))
    (λ k low.
    let k8 : k < 8 = omega (arith, tx) in
    at k k8 ∙ ap₂ bit_xor (sym (get_or-take 8 x k 0 k8)) (sym (get_or-take 8 s k 0 k8)))

-- the tag after the last block, from the state and the block of the key stream that hides it
pub sent_tag : (key nonce aad m begun x s tag : List ℕ) (i : ℕ) → i ≡ block_count (length m)
    → begun ≡ fold (mac_step key) (mac_step key (replicate 16 0) (first_block nonce aad m)) (padded_blocks (encoded_aad aad))
    → x ≡ fold (mac_step key) begun (map (padded_block m) (range_with_len 0 i)) → s ≡ stream_block key nonce 0
    → tag ≡ xor_bytes (take 8 x) (take 8 s) → tag ≡ encrypted_tag key nonce aad m
sent_tag key nonce aad m begun x s tag i ei eb ex es et =
    et
    ∙ ap₂ (λ (a b : List ℕ). xor_bytes (take 8 a) (take 8 b)) (mac_is key nonce aad m begun x eb (absorb_end key begun x m i ei ex)) es
