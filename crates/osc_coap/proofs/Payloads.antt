-- A payload stands last in its datagram.
use Rattle.std.proofs.Common.{◌≡◌, ◌≢◌, ℕ, ◌+◌, ◌-◌, ◌<◌, ◌≤◌, List, [], ◌∷◌, ◌++◌, length, take, drop, refl, sym, ap, ◌∙◌, append_assoc, arith}
use Rattle.std.proofs.lemmas.List.{append-nil, length-append, take_at, drop_at}
use Rattle.std.proofs.lemmas.List.Elements.{All-cons}
use Rattle.osc_coap.specs.OptionSpelling.{AreBytes, marked}
use Rattle.osc_coap.specs.Datagram.{Parts, head, IsDatagram}
use Rattle.osc_coap.proofs.Bytes.{bytes_append, bytes_take}

-- a payload that isn't empty stands behind a marker
marked_is : (q : List ℕ) → q ≢ [] → marked q ≡ 255 ∷ q
marked_is [] h = absurd (h refl)
marked_is (x ∷ q) h = refl

-- the payload parted from all before it
regroup : (a b c d : List ℕ) (x : ℕ) → a ++ (b ++ (c ++ (x ∷ d))) ≡ (a ++ (b ++ (c ++ (x ∷ [])))) ++ d
regroup a b c d x = simp append_assoc

-- all that stands before the payload
front : Parts → List ℕ → List ℕ
front p spelled = head p ++ (p.token ++ (spelled ++ (255 ∷ [])))

-- a datagram is its front and its payload
splits : (p : Parts) (bytes : List ℕ) (h : IsDatagram p bytes) → p.payload ≢ [] → bytes ≡ front p h.spelled ++ p.payload
unfolding front
splits p bytes h n = h.whole ∙ ap (λ (z : List ℕ). head p ++ (p.token ++ (h.spelled ++ z))) (marked_is p.payload n) ∙ regroup (head p) p.token h.spelled p.payload 255

-- the length of two parts
counted : (xs a b : List ℕ) → xs ≡ a ++ b → (length xs ≡ length a + length b)
counted xs a b e = ap length e ∙ length-append a b

-- where the second part begins, counted from the end
cut : (xs a b : List ℕ) → xs ≡ a ++ b → (take (length xs - length b) xs ≡ a) × (drop (length xs - length b) xs ≡ b)
cut xs a b e =
    let n = counted xs a b e in
    let at : length a ≡ length xs - length b = omega arith in
    (ap (take (length xs - length b)) e ∙ take_at a b _ at, ap (drop (length xs - length b)) e ∙ drop_at a b _ at)

-- a payload is the end of its datagram
pub stands_last : (p : Parts) (bytes : List ℕ) → IsDatagram p bytes → p.payload ≢ [] → (length p.payload ≤ length bytes) × (drop (length bytes - length p.payload) bytes ≡ p.payload)
stands_last p bytes h n =
    let e = splits p bytes h n in
    let count = counted bytes (front p h.spelled) p.payload e in
    (omega arith, (cut bytes (front p h.spelled) p.payload e).1)

-- a list as long as one with elements has some
filled : (p q : List ℕ) → p ≢ [] → length q ≡ length p → q ≢ []
filled [] q n e = absurd (n refl)
filled (x ∷ p) [] n e = absurd (omega arith)
filled (x ∷ p) (y ∷ q) n e = λ z. cc

-- another payload of its length makes a datagram too
pub with_other : (p : Parts) (bytes other : List ℕ) → IsDatagram p bytes → p.payload ≢ [] → AreBytes other → length other ≡ length p.payload → IsDatagram (record p { payload = other }) (take (length bytes - length p.payload) bytes ++ other)
unfolding front
with_other p bytes other h n are same =
    let e = splits p bytes h n in
    let count = counted bytes (front p h.spelled) p.payload e in
    let before = (cut bytes (front p h.spelled) p.payload e).0 in
    let new = take (length bytes - length p.payload) bytes ++ other in
    let made : new ≡ front p h.spelled ++ other = ap (λ (z : List ℕ). z ++ other) before in
    let long : length new ≡ length bytes = counted new (front p h.spelled) other made ∙ (let s = same in omega arith) in
    let fits = h.fits in
    record {
      are_bytes = bytes_append (take (length bytes - length p.payload) bytes) other (bytes_take (length bytes - length p.payload) bytes h.are_bytes) are;
      fits = omega arith;
      token = h.token;
      spelled = h.spelled;
      spells = h.spells;
      whole = made ∙ sym (regroup (head p) p.token h.spelled other 255) ∙ ap (λ (z : List ℕ). head p ++ (p.token ++ (h.spelled ++ z))) (sym (marked_is other (filled p.payload other n same)));
      empty = λ c. long ∙ h.empty c;
    }

-- a message without payload, and a marker with one behind it
joined : (first token spelled more : List ℕ) → (first ++ (token ++ (spelled ++ []))) ++ more ≡ first ++ (token ++ (spelled ++ more))
joined first token spelled more = simp (append_assoc, append-nil)

-- a payload added behind its marker makes a datagram too
pub with_added : (p : Parts) (payload bytes : List ℕ) → IsDatagram p bytes → p.payload ≡ [] → p.code ≢ 0 → AreBytes payload → payload ≢ [] → length (bytes ++ (255 ∷ payload)) ≤ 65535 → IsDatagram (record p { payload = payload }) (bytes ++ (255 ∷ payload))
with_added p payload bytes h none code are some fits =
    let nothing : marked p.payload ≡ [] = rw none refl in
    record {
      are_bytes = bytes_append bytes (255 ∷ payload) h.are_bytes (All-cons (λ b. b < 256) 255 payload (omega arith) are);
      fits = fits;
      token = h.token;
      spelled = h.spelled;
      spells = h.spells;
      whole = ap (λ (y : List ℕ). y ++ (255 ∷ payload)) (h.whole ∙ ap (λ (z : List ℕ). head p ++ (p.token ++ (h.spelled ++ z))) nothing) ∙ joined (head p) p.token h.spelled (255 ∷ payload) ∙ ap (λ (z : List ℕ). head p ++ (p.token ++ (h.spelled ++ z))) (sym (marked_is payload some));
      empty = λ e. absurd (code e);
    }
