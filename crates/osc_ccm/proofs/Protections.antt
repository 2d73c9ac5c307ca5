-- Protections: what one tells of its message, and what sealing and opening leave in the buffer.
use Rattle.std.proofs.Common.{◌≡◌, ℕ, ◌+◌, ◌-◌, ◌≤◌, List, ◌++◌, length, take, drop, refl, ap, ap₂, ◌∙◌, sym, arith, length-append}
use Rattle.std.proofs.lemmas.List.{take_all, take_at, drop_at, drop-drop, length-take-le, take-append-drop, take_rest}
use Rattle.std.proofs.lemmas.Slice.{put_mid-paste}
use borrow.Rule.Slice.PartMut.{put_mid}
use Rattle.osc_aes.specs.Aes128.{BlockKeepsItsLength}
use Rattle.osc_ccm.specs.Ccm.{block_count, ccm, counter_block, encrypted, encrypted_tag, key_stream, mac_of, stream_block, tag_of, xor_bytes}
use Rattle.osc_ccm.proofs.Streams.{length-key_stream}
use Rattle.osc_ccm.proofs.Macs.{length-mac_of}
use Rattle.osc_ccm.proofs.Xor.{length-xor_bytes, xor_bytes-twice}

module _ (whole : BlockKeepsItsLength) (key nonce aad : List ℕ) where
  -- the key stream is as long as its message
  long_stream : (m : List ℕ) → length m ≤ length (key_stream key nonce (block_count (length m)))
  long_stream m = omega (arith, length-key_stream whole key nonce (block_count (length m)))

  -- encryption keeps the length
  pub length-encrypted : (m : List ℕ) → length (encrypted key nonce m) ≡ length m
  length-encrypted m = length-xor_bytes m (key_stream key nonce (block_count (length m))) (long_stream m)

  -- encryption twice gives the message back
  pub encrypted-twice : (m x : List ℕ) → x ≡ encrypted key nonce m → encrypted key nonce x ≡ m
  encrypted-twice m x e =
      let same : length x ≡ length m = ap (λ (l : List ℕ). length l) e ∙ length-encrypted m in
      ap₂ (λ (l : List ℕ) (n : ℕ). xor_bytes l (key_stream key nonce (block_count n))) e same
      ∙ xor_bytes-twice m (key_stream key nonce (block_count (length m))) (long_stream m)

  -- a tag has 8 bytes
  length-encrypted_tag : (m : List ℕ) → length (encrypted_tag key nonce aad m) ≡ 8
  length-encrypted_tag m =
      let x = length-take-le 8 (mac_of key nonce aad m) (omega (arith, length-mac_of whole key nonce aad m)) in
      let s = length-take-le 8 (stream_block key nonce 0) (omega (arith, whole key (counter_block nonce 0))) in
      length-xor_bytes (tag_of key nonce aad m) (take 8 (stream_block key nonce 0)) (omega (arith, x, s)) ∙ x

  -- a protection is 8 bytes longer than its message
  pub length-ccm : (m : List ℕ) → length (ccm key nonce aad m) ≡ length m + 8
  unfolding ccm
  length-ccm m =
      length-append (encrypted key nonce m) (encrypted_tag key nonce aad m)
      ∙ omega (arith, length-encrypted m, length-encrypted_tag m)

  -- the front of a protection
  ccm-front : (m : List ℕ) (n : ℕ) → length m ≡ n → take n (ccm key nonce aad m) ≡ encrypted key nonce m
  unfolding ccm
  ccm-front m n long = take_at (encrypted key nonce m) (encrypted_tag key nonce aad m) n (length-encrypted m ∙ long)

  -- the back of a protection
  ccm-back : (m : List ℕ) (n : ℕ) → length m ≡ n → drop n (ccm key nonce aad m) ≡ encrypted_tag key nonce aad m
  unfolding ccm
  ccm-back m n long = drop_at (encrypted key nonce m) (encrypted_tag key nonce aad m) n (length-encrypted m ∙ long)

  -- a protection is of one message
  pub ccm-one : (m m' : List ℕ) → ccm key nonce aad m ≡ ccm key nonce aad m' → m ≡ m'
  ccm-one m m' e =
      let same : length m ≡ length m' = omega (arith, length-ccm m, length-ccm m', ap (λ (l : List ℕ). length l) e) in
      let fronts : encrypted key nonce m ≡ encrypted key nonce m' =
      sym (ccm-front m (length m) refl) ∙ ap (take (length m)) e ∙ ccm-front m' (length m) (sym same) in
      sym (encrypted-twice m (encrypted key nonce m) refl) ∙ encrypted-twice m' (encrypted key nonce m) fronts

  -- a buffer whose last bytes are the tag of what its front decrypts to is that protected
  pub protects : (c m : List ℕ) (n : ℕ) → m ≡ encrypted key nonce (take n c) → drop n c ≡ encrypted_tag key nonce aad m
      → c ≡ ccm key nonce aad m
  unfolding ccm
  protects c m n em et =
      sym (take-append-drop n c) ∙ ap₂ (λ (a b : List ℕ). a ++ b) (sym (encrypted-twice (take n c) m em)) et

  -- and each protection is such a buffer, of that message
  protected : (c m m' : List ℕ) (n : ℕ) → length c ≡ n + 8 → m ≡ encrypted key nonce (take n c) → c ≡ ccm key nonce aad m' → m ≡ m'
  protected c m m' n long em ec =
      let same : length m' ≡ n = omega (arith, length-ccm m', ap (λ (l : List ℕ). length l) ec) in
      em ∙ encrypted-twice m' (take n c) (ap (take n) ec ∙ ccm-front m' n same)

  -- so its last bytes are that message's tag
  protected_tag : (c m m' : List ℕ) (n : ℕ) → length c ≡ n + 8 → m ≡ encrypted key nonce (take n c) → c ≡ ccm key nonce aad m'
      → drop n c ≡ encrypted_tag key nonce aad m
  protected_tag c m m' n long em ec =
      let same : length m' ≡ n = omega (arith, length-ccm m', ap (λ (l : List ℕ). length l) ec) in
      ap (drop n) ec ∙ ccm-back m' n same ∙ ap (encrypted_tag key nonce aad) (sym (protected c m m' n long em ec))

  -- the buffer after the message and the tag were written
  pub sealed_in_place : (buf front tag : List ℕ) (n k : ℕ) → n + 8 ≤ length buf → k ≡ 8 → length front ≡ n
      → front ≡ encrypted key nonce (take n buf) → length tag ≡ 8 → tag ≡ encrypted_tag key nonce aad (take n buf)
      → put_mid n k (front ++ drop n buf) tag ≡ ccm key nonce aad (take n buf) ++ drop (n + 8) buf
  unfolding ccm
  sealed_in_place buf front tag n k le ek lf ef lt et =
      put_mid-paste n k (front ++ drop n buf) tag tag 8 refl (sym ek) (sym lt)
      ∙ ap₂ (λ (a b : List ℕ). a ++ b)
      (ap₂ (λ (a b : List ℕ). a ++ b) (take_at front (drop n buf) n lf ∙ ef) (take_all 8 tag (omega arith) ∙ et))
      (sym (drop-drop 8 n (front ++ drop n buf)) ∙ ap (drop 8) (drop_at front (drop n buf) n lf) ∙ drop-drop 8 n buf)

  -- what opening computes: front decrypts all of buf but its last 8 bytes, and the buffer is then front with these behind it
  module _ (buf front tag : List ℕ) (enough : 8 ≤ length buf)
      (ef : front ≡ encrypted key nonce (take (length buf - 8) buf))
      (et : tag ≡ encrypted_tag key nonce aad front) where
    -- the length of the plaintext
    abbrev n : ℕ
    n = length buf - 8

    -- the buffer then
    abbrev now : List ℕ
    now = front ++ drop n buf

    -- the front is as long as what is decrypted
    long_front : length front ≡ n
    long_front = ap (λ (l : List ℕ). length l) ef ∙ length-encrypted (take n buf) ∙ length-take-le n buf (omega arith)

    -- the front of the buffer
    front_is : take n now ≡ front
    front_is = take_at front (drop n buf) n long_front

    -- its back stays
    pub back_stays : drop n now ≡ drop n buf
    back_stays = drop_at front (drop n buf) n long_front

    -- the bytes that are compared with the tag
    received : take (length now - n) (drop n now) ≡ drop n buf
    received = take_rest now n ∙ back_stays

    -- a right tag: the buffer was the protection of the front
    pub opens : tag ≡ take (length now - n) (drop n now) → buf ≡ ccm key nonce aad (take n now)
    opens hit = protects buf front n ef (sym (hit ∙ received) ∙ et) ∙ ap (ccm key nonce aad) (sym front_is)

    -- and of no other message
    pub opens_only : (m : List ℕ) → buf ≡ ccm key nonce aad m → take n now ≡ m
    opens_only m e = front_is ∙ protected buf front m n (omega arith) ef e

    -- a protection has a right tag
    pub right_tag : (m : List ℕ) → buf ≡ ccm key nonce aad m → tag ≡ take (length now - n) (drop n now)
    right_tag m e = et ∙ sym (protected_tag buf front m n (omega arith) ef e) ∙ sym received

    -- the key stream once more gives the buffer back
    pub restored : (again : List ℕ) → again ≡ encrypted key nonce (take n now) → again ++ drop n now ≡ buf
    restored again ea =
        ap₂ (λ (a b : List ℕ). a ++ b) (ea ∙ ap (encrypted key nonce) front_is ∙ encrypted-twice (take n buf) front ef) back_stays
        ∙ take-append-drop n buf
