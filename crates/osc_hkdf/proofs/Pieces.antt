-- One more block of HKDF's output.
use Rattle.std.proofs.Common.{replicate, ◌≡◌, ℕ, zero, suc, ◌+◌, ◌-◌, ◌*◌, ◌/◌, ◌<◌, min, List, [], ◌∷◌, ◌++◌, length, get_or, take, drop, bit_xor, refl, ap, ap₂, ◌∙◌, sym, arith, add-one, length-append, length-drop, append-nil, append_assoc, inl, inr, take-add}
use Rattle.std.proofs.lemmas.Bool.{cases_lt}
use Rattle.std.proofs.lemmas.List.{drop_all, drop_at, take_all, take_min, take_at, length-take-le}
use Rattle.std.proofs.lemmas.List.FromFn.{fill_by_all, get_or-map-range_with_len}
use Rattle.std.proofs.lemmas.List.{take_more}
use Rattle.std.proofs.lemmas.List.Concat.{flat_map-append}
use Rattle.std.specs.List.{flat_map}
use Rattle.std.specs.Borrow.{Bor}
use Rattle.std.proofs.lemmas.Slice.{put_mid-paste}
use borrow.Rule.Slice.PartMut.{put_mid}
use Rattle.sha2.specs.Sha256.{sha256}
use Rattle.sha2.proofs.Facts256.{length-sha256}
use Rattle.osc_hkdf.specs.Hkdf.{expand_block, expand_blocks, expand_of, extract_of}
use Rattle.osc_hkdf.specs.Hmac.{hmac, padded_key, short_key}

same_key : (s t : List ℕ) (pad : ℕ) → ((i : ℕ) → get_or s i 0 ≡ get_or t i 0) → padded_key s pad ≡ padded_key t pad
same_key s t pad same =
    fill_by_all (λ i. bit_xor (get_or t i 0) pad) (padded_key s pad) 64 0 refl
    (λ k lt. get_or-map-range_with_len (λ i. bit_xor (get_or s i 0) pad) 0 64 k k 0 lt (omega arith) ∙ ap (λ (x : ℕ). bit_xor x pad) (same k))

pub hmac_is : (key short inner outer m ki ko : List ℕ) → ((i : ℕ) → get_or short i 0 ≡ get_or (short_key key) i 0)
    → ki ≡ padded_key short 0x36 → inner ≡ sha256 (ki ++ m) → ko ≡ padded_key short 0x5c → outer ≡ sha256 (ko ++ inner)
    → outer ≡ hmac key m
unfolding hmac
hmac_is key short inner outer m ki ko same eki ei eko eo =
    eo
    ∙ ap₂ (λ (k i : List ℕ). sha256 (k ++ i)) (eko ∙ same_key short (short_key key) 0x5c same)
    (ei ∙ ap (λ (k : List ℕ). sha256 (k ++ m)) (eki ∙ same_key short (short_key key) 0x36 same))

pub length-hmac : (key m : List ℕ) → length (hmac key m) ≡ 32
unfolding hmac
length-hmac key m = length-sha256 _

length-block : (prk info : List ℕ) (n : ℕ) → length (expand_block prk info (suc n)) ≡ 32
unfolding expand_block
length-block prk info n = length-hmac prk _

length-blocks : (prk info : List ℕ) (n : ℕ) → length (expand_blocks prk info n) ≡ 32 * n
unfolding expand_blocks
length-blocks prk info zero = refl
length-blocks prk info (suc n) =
    let before = length-blocks prk info n in
    let last = length-block prk info n in
    length-append (expand_blocks prk info n) (expand_block prk info (suc n)) ∙ omega (arith, before, last)

pub length-extract_of : (salt secret : List ℕ) → length (extract_of salt secret) ≡ 32
unfolding extract_of
length-extract_of salt secret = length-hmac salt secret

pub length-expand_of : (prk info : List ℕ) (n : ℕ) → length (expand_of prk info n) ≡ n
unfolding expand_of
length-expand_of prk info n =
    let blocks = expand_blocks prk info ((n + 31) / 32) in
    length-take-le n blocks (omega (arith, length-blocks prk info ((n + 31) / 32)))

pub block_more : (prk info last block counter : List ℕ) (n : ℕ) → last ≡ expand_block prk info n → counter ≡ (n + 1) ∷ []
    → block ≡ hmac prk (last ++ (info ++ counter)) → block ≡ expand_block prk info (n + 1)
unfolding expand_block
block_more prk info last block counter n el ec eb =
    rw add-one (eb ∙ ap (hmac prk) (sym (append_assoc last info counter)) ∙ ap₂ (λ (l k : List ℕ). hmac prk ((l ++ info) ++ k)) el (ec ∙ ap (λ (x : ℕ). x ∷ []) (omega arith)))

blocks_more : (prk info : List ℕ) (n : ℕ) → expand_blocks prk info (n + 1) ≡ expand_blocks prk info n ++ expand_block prk info (n + 1)
unfolding expand_blocks
blocks_more prk info n = rw add-one refl

-- the front of two lists joined
take_past : (p q : List ℕ) (n k m : ℕ) → length p ≡ n → m ≡ n + k → take m (p ++ q) ≡ p ++ take k q
take_past p q n k m long em =
    ap (λ (j : ℕ). take j (p ++ q)) em ∙ take-add n k (p ++ q) ∙ ap₂ (λ (a b : List ℕ). a ++ take k b) (take_at p q n long) (drop_at p q n long)

-- one more block written
pub expand_more : (prk info out block ys init : List ℕ) (i n : ℕ) → 32 * i < length init → length out ≡ length init
    → n ≡ min (32 * i + 32) (length init) - 32 * i → take (32 * i) out ≡ take (length init) (expand_blocks prk info i)
    → block ≡ expand_block prk info (i + 1) → length block ≡ 32 → ys ≡ take n block
    → take (32 * (i + 1)) (put_mid (32 * i) n out ys) ≡ take (length init) (expand_blocks prk info (i + 1))
expand_more prk info out block ys init i n lt long en e eb lb ey =
    let before = expand_blocks prk info i in
    let long_before = length-blocks prk info i in
    let room = length init - 32 * i in
    let n_is : n ≡ min 32 room = omega arith in
    let front : take (32 * i) out ≡ before = e ∙ take_all (length init) before (omega (arith, long_before)) in
    let long_ys : length ys ≡ n = ap (λ (l : List ℕ). length l) ey ∙ length-take-le n block (omega arith) in
    let part : take n block ≡ take room block =
    ap (λ (j : ℕ). take j block) n_is ∙ ap (λ (j : ℕ). take (min j room) block) (sym lb)
    ∙ ap (λ (j : ℕ). take j block) (omega arith) ∙ take_min room block in
    let right : take (length init) (expand_blocks prk info (i + 1)) ≡ before ++ take room block =
    ap (take (length init)) (blocks_more prk info i ∙ ap (λ (l : List ℕ). before ++ l) (sym eb))
    ∙ take_past before block (32 * i) room (length init) long_before (omega arith) in
    let written : put_mid (32 * i) n out ys ≡ (before ++ ys) ++ drop (32 * i + n) out =
    put_mid-paste (32 * i) n out ys ys n refl refl (sym long_ys)
    ∙ ap₂ (λ (a b : List ℕ). (a ++ b) ++ drop (32 * i + n) out) front (take_all n ys (omega arith)) in
    let both : length (before ++ ys) ≡ 32 * i + n = length-append before ys ∙ omega (arith, long_before) in
    let left : take (32 * (i + 1)) ((before ++ ys) ++ drop (32 * i + n) out) ≡ before ++ ys =
    elim (cases_lt n 32) [
      | inl short ↦
          take_all (32 * (i + 1)) ((before ++ ys) ++ drop (32 * i + n) out)
          (omega (arith, length-append (before ++ ys) (drop (32 * i + n) out), length-drop (32 * i + n) out))
          ∙ ap (λ (l : List ℕ). (before ++ ys) ++ l) (drop_all (32 * i + n) out (omega arith)) ∙ append-nil (before ++ ys)
      | inr whole ↦ take_at (before ++ ys) (drop (32 * i + n) out) (32 * (i + 1)) (omega arith)
    ] in
    ap (take (32 * (i + 1))) written ∙ left ∙ ap (λ (l : List ℕ). before ++ l) (ey ∙ part) ∙ sym right

pub expand_done : (prk info out : List ℕ) (i len : ℕ) → length out ≡ len → i ≡ (len + 31) / 32
    → take (32 * i) out ≡ take len (expand_blocks prk info i) → out ≡ expand_of prk info len
unfolding expand_of
expand_done prk info out i len long ei e =
    sym (take_all (32 * i) out (omega arith)) ∙ e ∙ ap (λ (n : ℕ). take len (expand_blocks prk info n)) ei

pub zeros : (n j : ℕ) → get_or {A = ℕ} (replicate n 0) j 0 ≡ 0
zeros zero j = refl
zeros (suc n) zero = refl
zeros (suc n) (suc j) = zeros n j

-- one more part of a message behind its key
pub parts_more : (key : List ℕ) (parts : List (Bor (List ℕ))) (i : ℕ) (d : Bor (List ℕ)) → i < length parts
    → (key ++ flat_map (λ part. part.now) (take i parts)) ++ (get_or parts i d).now ≡ key ++ flat_map (λ part. part.now) (take (i + 1) parts)
parts_more key parts i d lt =
    let f : Bor (List ℕ) → List ℕ = λ part. part.now in
    append_assoc key (flat_map f (take i parts)) (get_or parts i d).now
    ∙ ap (λ (m : List ℕ). key ++ m)
    (sym (ap (flat_map f) (take_more parts i d lt) ∙ flat_map-append f (take i parts) (get_or parts i d ∷ [])
    ∙ ap (λ (m : List ℕ). flat_map f (take i parts) ++ m) (append-nil (get_or parts i d).now)))
