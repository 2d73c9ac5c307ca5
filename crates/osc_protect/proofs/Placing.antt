-- A part of a buffer that was written: the end from a place on, and a payload that was sealed there.
use Rattle.std.proofs.Common.{◌≡◌, ℕ, ◌+◌, ◌-◌, ◌<◌, ◌≤◌, List, [], ◌∷◌, ◌++◌, length, take, drop, drop-drop, slice_set, get_or, sym, ap, subst, ◌∙◌, arith, append_assoc, length-take}
use Rattle.std.proofs.lemmas.List.{length-append, take_at, drop_at}
use Rattle.std.proofs.lemmas.List.Elements.{All-from_get_or, All-drop, All-take}
use Rattle.std.proofs.lemmas.Grind.{common_steps}
use Rattle.osc_coap.specs.OptionSpelling.{AreBytes}
use borrow.Rule.Slice.PartMut.{put_mid, mid_of}

-- the part from a place to the end
pub mid_last : (a : ℕ) (xs : List ℕ) → mid_of a (length xs - a) xs ≡ drop a xs
mid_last a xs = grind (arith, common_steps)

-- a list after a write to that part
pub put_last : (a : ℕ) (xs ys : List ℕ) → a ≤ length xs → put_mid a (length xs - a) xs ys ≡ take a xs ++ ys
put_last a xs ys h = grind (arith, common_steps)

-- the bytes up to one that was written
set_front : (at : ℕ) (xs : List ℕ) (x : ℕ) → at < length xs → take (at + 1) (slice_set xs at x) ≡ take at xs ++ x ∷ []
set_front at xs x h = grind (arith, common_steps)

-- the bytes behind one that was written
set_rest : (at : ℕ) (xs : List ℕ) (x : ℕ) → at < length xs → drop (at + 1) (slice_set xs at x) ≡ drop (at + 1) xs
set_rest at xs x h = grind (arith, common_steps)

-- a buffer after the marker and the sealed payload
pub behind : (old ys cipher : List ℕ) (at len : ℕ) → at + 9 + len ≤ length old → length cipher ≡ len + 8
    → ys ≡ cipher ++ drop (len + 8) (drop (at + 1) old)
    → (take (at + 9 + len) (put_mid (at + 1) (length (slice_set old at 255) - (at + 1)) (slice_set old at 255) ys) ≡ take at old ++ (255 ∷ cipher))
    × (drop (at + 9 + len) (put_mid (at + 1) (length (slice_set old at 255) - (at + 1)) (slice_set old at 255) ys) ≡ drop (at + 9 + len) old)
behind old ys cipher at len room long e =
    let same : length (slice_set old at 255) ≡ length old = grind (arith, common_steps) in
    let whole : put_mid (at + 1) (length (slice_set old at 255) - (at + 1)) (slice_set old at 255) ys ≡ (take at old ++ (255 ∷ cipher)) ++ drop (len + 8) (drop (at + 1) old) =
    put_last (at + 1) (slice_set old at 255) ys (omega arith)
    ∙ ap (λ (z : List ℕ). z ++ ys) (set_front at old 255 (omega arith))
    ∙ ap (λ (z : List ℕ). (take at old ++ 255 ∷ []) ++ z) e
    ∙ grouped (take at old) cipher (drop (len + 8) (drop (at + 1) old)) in
    let size : length (take at old ++ (255 ∷ cipher)) ≡ at + 9 + len = omega (arith, length-append (take at old) (255 ∷ cipher), length-take at old) in
    (ap (take (at + 9 + len)) whole ∙ take_at _ _ (at + 9 + len) size, ap (drop (at + 9 + len)) whole ∙ drop_at _ _ (at + 9 + len) size ∙ dropped)
  where
    grouped : (a b c : List ℕ) → (a ++ 255 ∷ []) ++ (b ++ c) ≡ (a ++ (255 ∷ b)) ++ c
    grouped a b c = simp append_assoc

    dropped : drop (len + 8) (drop (at + 1) old) ≡ drop (at + 9 + len) old
    dropped = grind (arith, common_steps)

-- the part behind a marker, before it is sealed
pub part_old : (f : List ℕ → List ℕ) (old ys : List ℕ) (at len : ℕ) → at < length old
    → ys ≡ f (take len (mid_of (at + 1) (length (slice_set old at 255) - (at + 1)) (slice_set old at 255))) ++ drop (len + 8) (mid_of (at + 1) (length (slice_set old at 255) - (at + 1)) (slice_set old at 255))
    → ys ≡ f (take len (drop (at + 1) old)) ++ drop (len + 8) (drop (at + 1) old)
part_old f old ys at len h e =
    let part = mid_last (at + 1) (slice_set old at 255) ∙ set_rest at old 255 h in
    e ∙ ap (λ (z : List ℕ). f (take len z) ++ drop (len + 8) z) part

-- a payload that stands in bytes is of bytes
pub payload_bytes : (new a cipher : List ℕ) (n at : ℕ) → length a ≡ at → take n new ≡ a ++ (255 ∷ cipher) → ((i : ℕ) → get_or new i 0 < 256) → AreBytes cipher
payload_bytes new a cipher n at long e fits =
    let all = All-from_get_or (λ b. b < 256) new 0 (λ i lt. fits i) in
    let front : length (a ++ 255 ∷ []) ≡ at + 1 = length-append a (255 ∷ []) ∙ omega (arith, long) in
    subst AreBytes (ap (drop (at + 1)) (e ∙ sym (append_assoc a (255 ∷ []) cipher)) ∙ drop_at (a ++ 255 ∷ []) cipher (at + 1) front)
    (All-drop (λ b. b < 256) (at + 1) (take n new) (All-take (λ b. b < 256) n new all))

-- two parts of a buffer, the first of which is a byte longer than what stands in it
pub parted : (at : ℕ) (front buf : List ℕ) → length front ≡ at + 1 → (take at (front ++ buf) ≡ take at front) × (drop (at + 1) (front ++ buf) ≡ buf)
parted at front buf long = (grind (arith, common_steps), drop_at front buf (at + 1) long)

-- what stood behind what was written into the second part stands there still
pub left_behind : (old front buf : List ℕ) (at len : ℕ) → length front ≡ at + 1 → drop len buf ≡ drop len (drop (at + 1) old)
    → drop (at + 9 + len) (front ++ buf) ≡ drop (at + 9 + len) old
left_behind old front buf at len long part =
    split (at + 1) (len + 8) (at + 9 + len) (front ++ buf) (omega arith)
    ∙ ap (drop (len + 8)) (parted at front buf long).1
    ∙ split len 8 (len + 8) buf (omega arith)
    ∙ ap (drop 8) part
    ∙ sym (split len 8 (len + 8) (drop (at + 1) old) (omega arith))
    ∙ sym (split (at + 1) (len + 8) (at + 9 + len) old (omega arith))
  where
    split : (a b n : ℕ) (xs : List ℕ) → n ≡ a + b → drop n xs ≡ drop b (drop a xs)
    split a b n xs e = rw e (sym (drop-drop b a xs))
