-- The key stream, and one more block of it added to a message.
use Rattle.std.proofs.Common.{◌≡◌, ℕ, zero, suc, ◌+◌, ◌-◌, ◌*◌, ◌<◌, min, List, [], ◌∷◌, ◌++◌, length, get_or, take, drop, bit_xor, refl, ap, ap₂, ◌∙◌, sym, arith, length-drop, length-append, get_or-take, append-nil, take-add}
use Rattle.std.proofs.lemmas.List.{drop_all, take_min, drop_min, take_at, drop_at, drop-drop, take_all, length-take-le}
use Rattle.std.proofs.lemmas.List.Concat.{flat_map-append}
use Rattle.std.proofs.lemmas.Slice.{put_mid-paste}
use Rattle.std.specs.List.{range_with_len, flat_map}
use borrow.Rule.Slice.PartMut.{put_mid}
use Rattle.osc_aes.specs.Aes128.{BlockKeepsItsLength}
use Rattle.osc_ccm.specs.Ccm.{block_count, counter_block, encrypted, key_stream, stream_block, xor_bytes}
use Rattle.osc_ccm.proofs.Xor.{is_xor_bytes, length-xor_bytes, xor_bytes-append}

-- one more number in a row
range_more : (a n : ℕ) → range_with_len a (n + 1) ≡ range_with_len a n ++ (a + n) ∷ []
range_more a zero = ap (λ (x : ℕ). x ∷ []) (omega arith)
range_more a (suc n) =
    let e : suc n + 1 ≡ suc (n + 1) = omega arith in
    let f : a + 1 + n ≡ a + suc n = omega arith in
    ap (range_with_len a) e ∙ ap (λ (l : List ℕ). a ∷ l) (range_more (a + 1) n ∙ ap (λ (x : ℕ). range_with_len (a + 1) n ++ x ∷ []) f)

-- one more block of the key stream
pub key_stream-more : (key nonce : List ℕ) (n : ℕ) → key_stream key nonce (n + 1) ≡ key_stream key nonce n ++ stream_block key nonce (n + 1)
unfolding key_stream
key_stream-more key nonce n =
    let at : 1 + n ≡ n + 1 = omega arith in
    ap (flat_map (stream_block key nonce)) (range_more 1 n)
    ∙ flat_map-append (stream_block key nonce) (range_with_len 1 n) ((1 + n) ∷ [])
    ∙ ap (λ (l : List ℕ). flat_map (stream_block key nonce) (range_with_len 1 n) ++ l)
    (append-nil (stream_block key nonce (1 + n)) ∙ ap (stream_block key nonce) at)

-- a buffer of which the first i blocks were encrypted
abbrev pub encrypted_to : List ℕ → List ℕ → List ℕ → ℕ → List ℕ
encrypted_to key nonce init i = xor_bytes (take (16 * i) init) (key_stream key nonce i) ++ drop (16 * i) init

module _ (whole : BlockKeepsItsLength) (key nonce : List ℕ) where
  -- n blocks of the key stream have 16 bytes each
  pub length-key_stream : (n : ℕ) → length (key_stream key nonce n) ≡ 16 * n
  unfolding key_stream
  length-key_stream zero = refl
  length-key_stream (suc n) =
      let e : suc n ≡ n + 1 = omega arith in
      let before = length-key_stream n in
      let last = whole key (counter_block nonce (n + 1)) in
      ap (λ (m : ℕ). length (key_stream key nonce m)) e
      ∙ ap (λ (l : List ℕ). length l) (key_stream-more key nonce n)
      ∙ length-append (key_stream key nonce n) (stream_block key nonce (n + 1)) ∙ omega (arith, before, last)

  -- what is left of a buffer of which the first i blocks were encrypted
  pub left_is : (init buf : List ℕ) (i : ℕ) → 16 * i < length init → buf ≡ encrypted_to key nonce init i → drop (16 * i) buf ≡ drop (16 * i) init
  left_is init buf i lt e =
      let long_taken = length-take-le (16 * i) init (omega arith) in
      let long_stream = length-key_stream i in
      let long_front = length-xor_bytes (take (16 * i) init) (key_stream key nonce i) (omega (arith, long_taken, long_stream)) ∙ long_taken in
      ap (drop (16 * i)) e ∙ drop_at (xor_bytes (take (16 * i) init) (key_stream key nonce i)) (drop (16 * i) init) (16 * i) long_front

  -- one more block encrypted
  pub encrypted_more : (init buf ys : List ℕ) (i n : ℕ) → n ≡ min (16 * i + 16) (length init) - 16 * i → 16 * i < length init
      → buf ≡ encrypted_to key nonce init i → length ys ≡ n
      → ((k : ℕ) → get_or ys k 0 ≡ bit_xor (get_or (take n (drop (16 * i) buf)) k 0) (get_or (take n (stream_block key nonce (i + 1))) k 0))
      → put_mid (16 * i) n buf ys ≡ encrypted_to key nonce init (i + 1)
  encrypted_more init buf ys i n en lt e long at =
      let front = xor_bytes (take (16 * i) init) (key_stream key nonce i) in
      let rest = drop (16 * i) init in
      let block = stream_block key nonce (i + 1) in
      let long_taken = length-take-le (16 * i) init (omega arith) in
      let long_stream = length-key_stream i in
      let long_rest = length-drop (16 * i) init in
      let long_block = whole key (counter_block nonce (i + 1)) in
      let long_front : length front ≡ 16 * i =
      length-xor_bytes (take (16 * i) init) (key_stream key nonce i) (omega (arith, long_taken, long_stream)) ∙ long_taken in
      let n_rest : n ≡ min 16 (length rest) = omega (arith, long_rest) in
      let before : take (16 * i) buf ≡ front = ap (take (16 * i)) e ∙ take_at front rest (16 * i) long_front in
      let after : drop (16 * i) buf ≡ rest = left_is init buf i lt e in
      let taken : take n rest ≡ take 16 rest = ap (λ (m : ℕ). take m rest) n_rest ∙ take_min 16 rest in
      let long_part = length-take-le n rest (omega (arith, n_rest)) in
      let part : ys ≡ xor_bytes (take n rest) block =
      is_xor_bytes (take n rest) block ys (omega (arith, long_part, long_block, n_rest)) (omega (arith, long_part))
      (λ k low.
      at k ∙ ap₂ bit_xor (ap (λ (l : List ℕ). get_or (take n l) k 0) after) (get_or-take n block k 0 (omega (arith, long_part)))) in
      let left : drop (16 * i + n) buf ≡ drop 16 rest =
      sym (drop-drop n (16 * i) buf) ∙ ap (drop n) after ∙ ap (λ (m : ℕ). drop m rest) n_rest ∙ drop_min 16 rest in
      let next : 16 * (i + 1) ≡ 16 * i + 16 = omega arith in
      let goal_front : xor_bytes (take (16 * (i + 1)) init) (key_stream key nonce (i + 1)) ≡ front ++ xor_bytes (take n rest) block =
      ap₂ xor_bytes (ap (λ (m : ℕ). take m init) next ∙ take-add (16 * i) 16 init ∙ ap (λ (l : List ℕ). take (16 * i) init ++ l) (sym taken)) (key_stream-more key nonce i)
      ∙ xor_bytes-append (take (16 * i) init) (key_stream key nonce i) (take n rest) block (omega (arith, long_taken, long_stream)) in
      put_mid-paste (16 * i) n buf ys ys n refl refl (sym long)
      ∙ ap₂ (λ (a b : List ℕ). a ++ b)
      (ap₂ (λ (a b : List ℕ). a ++ b) before (take_all n ys (omega arith) ∙ part))
      (left ∙ drop-drop 16 (16 * i) init ∙ ap (λ (m : ℕ). drop m init) (sym next))
      ∙ ap (λ (l : List ℕ). l ++ drop (16 * (i + 1)) init) (sym goal_front)

-- all blocks encrypted
pub encrypted_end : (key nonce init buf : List ℕ) (i : ℕ) → i ≡ block_count (length init) → buf ≡ encrypted_to key nonce init i
    → buf ≡ encrypted key nonce init
encrypted_end key nonce init buf i ei e =
    e ∙ ap₂ (λ (a b : List ℕ). xor_bytes a (key_stream key nonce i) ++ b) (take_all (16 * i) init (omega arith)) (drop_all (16 * i) init (omega arith))
    ∙ append-nil (xor_bytes init (key_stream key nonce i))
    ∙ ap (λ (m : ℕ). xor_bytes init (key_stream key nonce m)) ei
