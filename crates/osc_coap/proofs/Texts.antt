-- A list of options has one text, whose length and order follow from the list.
use Rattle.std.proofs.Common.{◌≡◌, ℕ, ◌+◌, ◌/◌, ◌%◌, ◌<◌, true, false, ltb, List, [], ◌∷◌, ◌++◌, length, refl, sym, ap, subst, ◌∙◌, arith}
use Rattle.std.proofs.lemmas.Bool.{lt-ltb, le-ltb}
use Rattle.std.proofs.lemmas.List.{length-append}
use Rattle.std.proofs.lemmas.List.Elements.{All-head, All-tail}
use Rattle.osc_coap.specs.OptionSpelling.{Entry, AreBytes, Stands, Spells, Ascends, marked, extended_length, option_length, spelling_length}
use Rattle.osc_coap.proofs.Pieces.{HasPieces, spells_first}
use Rattle.osc_coap.specs.Datagram.{Parts, head, IsDatagram, datagram_length}
use Rattle.osc_coap.specs.Inner.{InnerParts, IsInner, inner_length}
use Rattle.osc_coap.proofs.Bytes.{bytes_front, bytes_back}

-- the first byte of a list
first_byte : (x : ℕ) (xs : List ℕ) → AreBytes (x ∷ xs) → x < 256
first_byte x xs h = All-head (λ b. b < 256) x xs h

-- the second byte of a list
second_byte : (x y : ℕ) (xs : List ℕ) → AreBytes (x ∷ y ∷ xs) → y < 256
second_byte x y xs h = first_byte y xs (All-tail (λ b. b < 256) x (y ∷ xs) h)

-- two equal bytes
one_listed : (x y : ℕ) → x ≡ y → ◌≡◌ {A = List ℕ} (x ∷ []) (y ∷ [])
one_listed x y e = rw e refl

-- two equal pairs of bytes
two_listed : (x y v w : ℕ) → x ≡ v → y ≡ w → ◌≡◌ {A = List ℕ} (x ∷ y ∷ []) (v ∷ w ∷ [])
two_listed x y v w e f = rw (e, f) refl

-- ---- a number has one nibble and one list of extended bytes

-- one nibble and one list of extended bytes stand for a number
stands_one : (j k n : ℕ) (xs ys : List ℕ) → AreBytes xs → AreBytes ys → Stands j xs n → Stands k ys n → (j ≡ k) × (xs ≡ ys)
stands_one j k n [] [] a b h g = (sym h.1 ∙ g.1, refl)
stands_one j k n [] (y ∷ []) a b h g = absurd (omega (arith, h.0, h.1, g.1))
stands_one j k n [] (y ∷ w ∷ []) a b h g = absurd (omega (arith, h.0, h.1, g.1))
stands_one j k n [] (y ∷ w ∷ z ∷ more) a b h g = absurd g
stands_one j k n (x ∷ []) [] a b h g = absurd (omega (arith, h.1, g.0, g.1))
stands_one j k n (x ∷ []) (y ∷ []) a b h g = (h.0 ∙ sym g.0, one_listed x y (omega (arith, h.1, g.1)))
stands_one j k n (x ∷ []) (y ∷ w ∷ []) a b h g = let small = first_byte x [] a in absurd (omega (arith, h.1, g.1))
stands_one j k n (x ∷ []) (y ∷ w ∷ z ∷ more) a b h g = absurd g
stands_one j k n (x ∷ v ∷ []) [] a b h g = absurd (omega (arith, h.1, g.0, g.1))
stands_one j k n (x ∷ v ∷ []) (y ∷ []) a b h g = let small = first_byte y [] b in absurd (omega (arith, h.1, g.1))
stands_one j k n (x ∷ v ∷ []) (y ∷ w ∷ []) a b h g =
    let low = second_byte x v [] a in
    let other = second_byte y w [] b in
    let e = h.1 in
    let f = g.1 in
    (h.0 ∙ sym g.0, two_listed x v y w (omega arith) (omega arith))
stands_one j k n (x ∷ v ∷ []) (y ∷ w ∷ z ∷ more) a b h g = absurd g
stands_one j k n (x ∷ v ∷ z ∷ more) ys a b h g = absurd h

-- ---- an option has one text in front of a tail

-- two options of one delta and value differ in their tails alone
pieces_one : (dn ln en mn delta : ℕ) (value tail other bytes others : List ℕ) → AreBytes bytes → AreBytes others → HasPieces dn ln delta value tail bytes → HasPieces en mn delta value other others
    → (dn ≡ en) × (ln ≡ mn) × ((tail ≡ other) → bytes ≡ others)
pieces_one dn ln en mn delta value tail other bytes others a b h g =
    let whole : AreBytes (h.delta_bytes ++ (h.length_bytes ++ (value ++ tail))) = subst AreBytes h.whole a in
    let whole2 : AreBytes (g.delta_bytes ++ (g.length_bytes ++ (value ++ other))) = subst AreBytes g.whole b in
    let d = stands_one dn en delta h.delta_bytes g.delta_bytes (bytes_front _ _ whole) (bytes_front _ _ whole2) h.delta_is g.delta_is in
    let l = stands_one ln mn (length value) h.length_bytes g.length_bytes (bytes_front _ _ (bytes_back _ _ whole)) (bytes_front _ _ (bytes_back _ _ whole2)) h.length_is g.length_is in
    (d.0, l.0, λ e. h.whole ∙ ap (λ (y : List ℕ). y ++ (h.length_bytes ++ (value ++ tail))) d.1 ∙ ap (λ (y : List ℕ). g.delta_bytes ++ (y ++ (value ++ tail))) l.1 ∙ ap (λ (y : List ℕ). g.delta_bytes ++ (g.length_bytes ++ (value ++ y))) e ∙ sym g.whole)

-- the bytes behind an option are bytes
tail_bytes : (dn ln delta : ℕ) (value tail bytes : List ℕ) → AreBytes bytes → HasPieces dn ln delta value tail bytes → AreBytes tail
tail_bytes dn ln delta value tail bytes a h = bytes_back value tail (bytes_back h.length_bytes _ (bytes_back h.delta_bytes _ (subst AreBytes h.whole a)))

-- an option byte from its nibbles
same_nibbles : (x y : ℕ) (xs ys : List ℕ) → x / 16 ≡ y / 16 → x % 16 ≡ y % 16 → xs ≡ ys → ◌≡◌ {A = List ℕ} (x ∷ xs) (y ∷ ys)
same_nibbles x y xs ys high low e = let same : x ≡ y = omega arith in rw (same, e) refl

-- a list of options has one text
pub text_one : (d : ℕ) (entries : List Entry) (text other : List ℕ) → AreBytes text → AreBytes other → Spells d entries text → Spells d entries other → text ≡ other
text_one d [] text other a b h k = h ∙ sym k
text_one d (entry ∷ entries) [] other a b h k = absurd (spells_first d entry entries [] h).1
text_one d (entry ∷ entries) (x ∷ text) [] a b h k = absurd (spells_first d entry entries [] k).1
text_one d (entry ∷ entries) (x ∷ text) (y ∷ other) a b h k =
    let p = spells_first d entry entries (x ∷ text) h in
    let q = spells_first d entry entries (y ∷ other) k in
    let more = All-tail (λ c. c < 256) x text a in
    let more2 = All-tail (λ c. c < 256) y other b in
    let one = pieces_one _ _ _ _ _ entry.1 p.0 q.0 text other more more2 p.1.2 q.1.2 in
    let tails = text_one entry.0 entries p.0 q.0 (tail_bytes _ _ _ _ _ _ more p.1.2) (tail_bytes _ _ _ _ _ _ more2 q.1.2) p.2 q.2 in
    same_nibbles x y text other one.0 one.1 (one.2 tails)

-- a message has one datagram
pub datagram_text_one : (p : Parts) (bytes other : List ℕ) → IsDatagram p bytes → IsDatagram p other → bytes ≡ other
datagram_text_one p bytes other h k =
    let a = bytes_front h.spelled (marked p.payload) (bytes_back p.token _ (bytes_back (head p) _ (subst AreBytes h.whole h.are_bytes))) in
    let b = bytes_front k.spelled (marked p.payload) (bytes_back p.token _ (bytes_back (head p) _ (subst AreBytes k.whole k.are_bytes))) in
    h.whole ∙ ap (λ (y : List ℕ). head p ++ (p.token ++ (y ++ marked p.payload))) (text_one 0 p.options h.spelled k.spelled a b h.spells k.spells) ∙ sym k.whole

-- a plaintext's parts have one text
pub inner_text_one : (p : InnerParts) (bytes other : List ℕ) → IsInner p bytes → IsInner p other → bytes ≡ other
inner_text_one p bytes other h k =
    let a = bytes_front h.spelled (marked p.payload) (bytes_back (p.code ∷ []) _ (subst AreBytes h.whole h.are_bytes)) in
    let b = bytes_front k.spelled (marked p.payload) (bytes_back (p.code ∷ []) _ (subst AreBytes k.whole k.are_bytes)) in
    h.whole ∙ ap (λ (y : List ℕ). p.code ∷ (y ++ marked p.payload)) (text_one 0 p.options h.spelled k.spelled a b h.spells k.spells) ∙ sym k.whole

-- ---- lengths

-- how many extended bytes stand for a number
stands_length : (j n : ℕ) (xs : List ℕ) → AreBytes xs → Stands j xs n → length xs ≡ extended_length n
stands_length j n [] a h = let t : ltb n 13 ≡ true = lt-ltb _ _ (omega (arith, h.0, h.1)) in rw t refl
stands_length j n (x ∷ []) a h =
    let small = first_byte x [] a in
    let t : ltb n 13 ≡ false = le-ltb _ _ (omega (arith, h.1)) in
    let u : ltb n 269 ≡ true = lt-ltb _ _ (omega (arith, h.1)) in rw (t, u) refl
stands_length j n (x ∷ y ∷ []) a h =
    let t : ltb n 13 ≡ false = le-ltb _ _ (omega (arith, h.1)) in
    let u : ltb n 269 ≡ false = le-ltb _ _ (omega (arith, h.1)) in rw (t, u) refl
stands_length j n (x ∷ y ∷ z ∷ more) a h = absurd h

-- how long the bytes behind an option byte are
pieces_length : (dn ln delta : ℕ) (value tail bytes : List ℕ) → AreBytes bytes → HasPieces dn ln delta value tail bytes → 1 + length bytes ≡ option_length delta (length value) + length tail
pieces_length dn ln delta value tail bytes a h =
    let whole : AreBytes (h.delta_bytes ++ (h.length_bytes ++ (value ++ tail))) = subst AreBytes h.whole a in
    let d = stands_length dn delta h.delta_bytes (bytes_front _ _ whole) h.delta_is in
    let l = stands_length ln (length value) h.length_bytes (bytes_front _ _ (bytes_back _ _ whole)) h.length_is in
    omega (arith, ap length h.whole, length-append h.delta_bytes (h.length_bytes ++ (value ++ tail)), length-append h.length_bytes (value ++ tail), length-append value tail)

-- how long a spelling is
pub text_length : (d : ℕ) (entries : List Entry) (text : List ℕ) → AreBytes text → Spells d entries text → length text ≡ spelling_length d entries
text_length d [] text a h = ap length h
text_length d (entry ∷ entries) [] a h = absurd (spells_first d entry entries [] h).1
text_length d (entry ∷ entries) (x ∷ text) a h =
    let p = spells_first d entry entries (x ∷ text) h in
    let more = All-tail (λ c. c < 256) x text a in
    let tails = text_length entry.0 entries p.0 (tail_bytes _ _ _ _ _ _ more p.1.2) p.2 in
    let first = pieces_length _ _ _ _ _ _ more p.1.2 in
    omega (arith, first, tails)

-- how long a datagram is
pub datagram_text_length : (p : Parts) (bytes : List ℕ) → IsDatagram p bytes → length bytes ≡ datagram_length p
datagram_text_length p bytes h =
    let a = bytes_front h.spelled (marked p.payload) (bytes_back p.token _ (bytes_back (head p) _ (subst AreBytes h.whole h.are_bytes))) in
    let spelled = text_length 0 p.options h.spelled a h.spells in
    let all : length bytes ≡ length (head p ++ (p.token ++ (h.spelled ++ marked p.payload))) = ap length h.whole in
    omega (arith, length-append p.token (h.spelled ++ marked p.payload), length-append h.spelled (marked p.payload))

-- how long a plaintext is
pub inner_text_length : (p : InnerParts) (bytes : List ℕ) → IsInner p bytes → length bytes ≡ inner_length p
inner_text_length p bytes h =
    let a = bytes_front h.spelled (marked p.payload) (bytes_back (p.code ∷ []) _ (subst AreBytes h.whole h.are_bytes)) in
    let spelled = text_length 0 p.options h.spelled a h.spells in
    let all : length bytes ≡ length (p.code ∷ (h.spelled ++ marked p.payload)) = ap length h.whole in
    omega (arith, length-append h.spelled (marked p.payload))

-- ---- order

-- options that are spelled ascend
pub text_ascends : (d : ℕ) (entries : List Entry) (text : List ℕ) → Spells d entries text → Ascends d entries
text_ascends d [] text h = tt
text_ascends d (entry ∷ entries) text h = (h.0, h.1, text_ascends entry.0 entries h.2 h.4)
