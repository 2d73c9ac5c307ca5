-- Decrypting the payload where it lies.
use Rattle.std.proofs.Common.{◌≡◌, ◌≢◌, ℕ, ◌+◌, ◌-◌, ◌<◌, ◌≤◌, List, [], ◌++◌, length, take, drop, refl, sym, ap, subst, ◌∙◌, arith, append-nil, drop_of_length-le, get_or, length-append, length-drop, length-take, take-append-drop, Option, Some, None, IfSome, IfNone, Result, Ok, Err, IfOk, IsOk, IsErr, OnErr}
use Rattle.std.proofs.lemmas.List.{get_or-append_right, take_at}
use Rattle.std.proofs.lemmas.List.Elements.{All-drop, All-from_get_or}
use borrow.Rule.Slice.PartMut.{put_mid, mid_of}
use Rattle.osc_protect.proofs.Placing.{mid_last, put_last}
use Rattle.osc_coap.specs.OptionSpelling.{AreBytes}
use Rattle.osc_coap.specs.Datagram.{Parts, IsDatagram}
use Rattle.osc_coap.specs.Laws.{PartsHaveOneDatagram, PayloadIsTheEnd, PayloadCanBeReplaced}
use Rattle.osc_protect.specs.Head.{Head}
use Rattle.osc_protect.specs.Protection.{Protection}
use Rattle.osc_protect.specs.Refusals.{RefusesTag}
use Rattle.osc_protect.specs.Halves.{DecryptsPayload, HasPayload}
use Rattle.osc_protect.specs.Laws.{OneHead}
use Rattle.osc_protect.specs.Stages.{Decrypts, HoldsPlaintext}
use Rattle.osc_protect.specs.declared.stage_error.BadTag.{BadTag}

-- the part that was written is of bytes, where the whole is
pub part_bytes : (a : ℕ) (xs ys : List ℕ) → a ≤ length xs → ((i : ℕ) → get_or (put_mid a (length xs - a) xs ys) i 0 < 256) → AreBytes ys
part_bytes a xs ys h fits =
    All-from_get_or (λ b. b < 256) ys 0 (λ i lt.
    let at : a + i - a ≡ i = omega arith in
    let long : length (take a xs) ≡ a = omega (arith, length-take a xs) in
    let same : get_or (put_mid a (length xs - a) xs ys) (a + i) 0 ≡ get_or ys i 0 =
    ap (λ (l : List ℕ). get_or l (a + i) 0) (put_last a xs ys h)
    ∙ get_or-append_right (take a xs) ys a (a + i) 0 long (omega arith)
    ∙ ap (λ (j : ℕ). get_or ys j 0) at in
    let fit = fits (a + i) in
    omega (arith, same, fit))

-- the part of the datagram that is decrypted is its payload
pub part_is : (last : PayloadIsTheEnd) (p : Parts) (d : List ℕ) (len : ℕ) → HasPayload p d len → mid_of (length d - len) (length d - (length d - len)) d ≡ p.payload
part_is last p d len x =
    mid_last (length d - len) d
    ∙ ap (λ (n : ℕ). drop (length d - n) d) x.long
    ∙ (last p d x.datagram x.filled).1

-- the plaintext lies in front of the tag
pub front_is : (last : PayloadIsTheEnd) (p : Parts) (d : List ℕ) (len start : ℕ) → IsDatagram p d → len + 8 ≡ length p.payload → start ≡ length d - (len + 8) → take (start + len - start) (drop start d) ≡ take len p.payload
front_is last p d len start h room e =
    let some : p.payload ≢ [] = λ z. let none : length p.payload ≡ 0 = ap length z in omega (arith, none, room) in
    let ends : drop (length d - length p.payload) d ≡ p.payload = (last p d h some).1 in
    let n : start + len - start ≡ len = omega arith in
    let at : start ≡ length d - length p.payload = e ∙ ap (λ (k : ℕ). length d - k) room in
    ap (λ (k : ℕ). take k (drop start d)) n ∙ ap (λ (k : ℕ). take len (drop k d)) at ∙ ap (take len) ends

-- and lies within it
pub part_within : (last : PayloadIsTheEnd) (p : Parts) (d : List ℕ) (len : ℕ) → HasPayload p d len → len ≤ length d
part_within last p d len x = let inside = (last p d x.datagram x.filled).0 in let long = x.long in omega (arith, inside, long)

-- a datagram whose payload was decrypted where it lies
pub decrypts : (last : PayloadIsTheEnd) (other : PayloadCanBeReplaced) (p : Parts) (d old ys : List ℕ) (len n : ℕ) (cipher : List ℕ → List ℕ) → HasPayload p d len → AreBytes ys
    → old ≡ p.payload → length ys ≡ length old → n + 8 ≡ length old → old ≡ cipher (take n ys) → drop n ys ≡ drop n old
    → DecryptsPayload cipher p n (put_mid (length d - len) (length d - (length d - len)) d ys)
decrypts last other p d old ys len n cipher x bytes whole same long sealed tag =
    let front : length (take n ys) ≡ n = omega (arith, length-take n ys) in
    let made : ys ≡ take n ys ++ drop (length (take n ys)) p.payload =
    sym (take-append-drop n ys) ∙ ap (λ (z : List ℕ). take n ys ++ z) (tag ∙ ap (drop n) whole ∙ ap (λ (k : ℕ). drop k p.payload) (sym front)) in
    let all : length ys ≡ length p.payload = same ∙ ap length whole in
    let at : put_mid (length d - len) (length d - (length d - len)) d ys ≡ take (length d - length p.payload) d ++ ys =
    put_last (length d - len) d ys (omega arith) ∙ ap (λ (k : ℕ). take (length d - k) d ++ ys) x.long in
    let put = other p d ys x.datagram x.filled bytes all in
    record {
      plaintext = take n ys;
      seals = sym whole ∙ sealed;
      left = subst (λ (z : List ℕ). IsDatagram (record p { payload = z }) (put_mid (length d - len) (length d - (length d - len)) d ys)) made
          (subst (λ (z : List ℕ). IsDatagram (record p { payload = ys }) z) (sym at) put);
      long = sym front;
    }

-- what opening the part made of the message's payload
pub opens_payload : (last : PayloadIsTheEnd) (other : PayloadCanBeReplaced) (p : Parts) (d ys : List ℕ) (len : ℕ) (cipher : List ℕ → List ℕ) → HasPayload p d len → AreBytes ys
    → length ys ≡ length (mid_of (length d - len) (length d - (length d - len)) d)
    → (r : Option ℕ) → IfSome r (λ n. n + 8 ≡ length (mid_of (length d - len) (length d - (length d - len)) d))
    → IfSome r (λ n. mid_of (length d - len) (length d - (length d - len)) d ≡ cipher (take n ys))
    → IfSome r (λ n. drop n ys ≡ drop n (mid_of (length d - len) (length d - (length d - len)) d))
    → IfSome r (λ n. DecryptsPayload cipher p n (put_mid (length d - len) (length d - (length d - len)) d ys))
opens_payload last other p d ys len cipher x bytes same (Some n) long sealed tag = decrypts last other p d _ ys len n cipher x bytes (part_is last p d len x) same long sealed tag
opens_payload last other p d ys len cipher x bytes same None long sealed tag = long

-- and where it protects nothing, neither does the payload
pub refuses_payload : (last : PayloadIsTheEnd) (p : Parts) (d : List ℕ) (len : ℕ) (cipher : List ℕ → List ℕ) → HasPayload p d len
    → (r : Option ℕ) → IfNone r ((m : List ℕ) → mid_of (length d - len) (length d - (length d - len)) d ≢ cipher m) → IfNone r ((m : List ℕ) → p.payload ≢ cipher m)
refuses_payload last p d len cipher x (Some n) none = none
refuses_payload last p d len cipher x None none = λ m e. none m (part_is last p d len x ∙ e)

-- ---- the way back

-- the payload that was sealed once more where it lies
pub sealed_last : (d ys : List ℕ) (len : ℕ) (cipher : List ℕ → List ℕ) → len ≤ length d → 8 ≤ len
    → ys ≡ cipher (take (len - 8) (mid_of (length d - len) (length d - (length d - len)) d)) ++ drop (len - 8 + 8) (mid_of (length d - len) (length d - (length d - len)) d)
    → put_mid (length d - len) (length d - (length d - len)) d ys ≡ take (length d - len) d ++ cipher (take (len - 8) (drop (length d - len) d))
sealed_last d ys len cipher within room made =
    let last : mid_of (length d - len) (length d - (length d - len)) d ≡ drop (length d - len) d = mid_last (length d - len) d in
    let none : drop (len - 8 + 8) (drop (length d - len) d) ≡ [] = drop_of_length-le (drop (length d - len) d) (omega (arith, length-drop (length d - len) d)) in
    put_last (length d - len) d ys (omega arith)
    ∙ ap (λ (z : List ℕ). take (length d - len) d ++ z)
    (made ∙ ap (λ (z : List ℕ). cipher (take (len - 8) z) ++ drop (len - 8 + 8) z) last
    ∙ ap (λ (z : List ℕ). cipher (take (len - 8) (drop (length d - len) d)) ++ z) none
    ∙ append-nil (cipher (take (len - 8) (drop (length d - len) d))))

-- what was decrypted, and then sealed once more, is what came
pub came_again : {I : Type 0} (last : PayloadIsTheEnd) (other : PayloadCanBeReplaced) (one : PartsHaveOneDatagram) (f : Protection I) (came d : List ℕ) (i : I) (n len : ℕ)
    → (it : Decrypts f came i n d) → len ≡ length (it.plaintext ++ drop (length it.plaintext) it.head.payload) → length (f.cipher i it.plaintext) ≡ length it.plaintext + 8
    → take (length d - len) d ++ f.cipher i (take (len - 8) (drop (length d - len) d)) ≡ came
came_again last other one f came d i n len it size long =
    let p = it.outer in
    let m = it.plaintext in
    let opened : List ℕ = m ++ drop (length m) p.payload in
    let same : f.cipher i m ≡ p.payload = sym it.seals ∙ it.shows.payload in
    let whole : length p.payload ≡ length m + 8 = ap length (sym same) ∙ long in
    let all : length opened ≡ length p.payload = omega (arith, length-append m (drop (length m) p.payload), length-drop (length m) p.payload, whole) in
    let len_is : len ≡ length opened = size ∙ ap (λ (z : List ℕ). length (m ++ drop (length m) z)) it.shows.payload in
    let some : opened ≢ [] = λ z. let none : length opened ≡ 0 = ap length z in omega (arith, none, all, whole) in
    let ends = (last (record p { payload = opened }) d it.left some).1 in
    let at : drop (length d - len) d ≡ opened = ap (λ (k : ℕ). drop (length d - k) d) len_is ∙ ends in
    let front : take (len - 8) opened ≡ m = take_at m (drop (length m) p.payload) (len - 8) (omega (arith, len_is, all, whole)) in
    let bytes : AreBytes p.payload = subst AreBytes (last p came it.datagram it.shows.filled).1 (All-drop (λ b. b < 256) (length came - length p.payload) came it.datagram.are_bytes) in
    let put : IsDatagram p (take (length d - length opened) d ++ p.payload) = other (record p { payload = opened }) d p.payload it.left some bytes (sym all) in
    ap (λ (z : List ℕ). take (length d - len) d ++ f.cipher i z) (ap (take (len - 8)) at ∙ front)
    ∙ ap (λ (z : List ℕ). take (length d - len) d ++ z) same
    ∙ ap (λ (k : ℕ). take (length d - k) d ++ p.payload) len_is
    ∙ one p (take (length d - length opened) d ++ p.payload) came put it.datagram

-- ---- the stage as its caller sees it

module _ {I : Type 0} (f : Protection I) (laws : OneHead f.usage) (one_number : (i j : I) → f.parts i ≡ f.parts j → i ≡ j) (d : List ℕ) where
  never_held : RefusesTag f d → HoldsPlaintext f d → ⊥
  never_held r x =
      let same : x.0 ≡ r.0 = laws.head d x.0 r.0 x.1 r.1 in
      let number : x.2 ≡ r.2 = one_number (x.2) (r.2) (sym x.3 ∙ ap (λ (h : Head). h.parts) same ∙ r.3) in
      r.4 (x.4) (sym (ap (λ (h : Head). h.payload) same) ∙ x.5 ∙ ap (λ (j : I). f.cipher j (x.4)) number)

  -- what protects a plaintext is decrypted
  pub accepts_held : {X : Type 0} (r : Result X BadTag) → OnErr r (RefusesTag f d) → HoldsPlaintext f d → IsOk r
  accepts_held (Ok x) refused held = refl
  accepts_held (Err e) refused held = absurd (never_held refused held)

  -- and what doesn't isn't
  pub refuses_held : {X : Type 0} (i : X → I) (len : X → ℕ) (new : List ℕ) (r : Result X BadTag) → IfOk r (λ x. Decrypts f d (i x) (len x) new) → RefusesTag f d → IsErr r
  refuses_held i len new (Ok x) it refused = absurd (never_held refused (it.head, (it.outer, it.datagram, it.shows), i x, it.names, it.plaintext, it.seals))
  refuses_held i len new (Err e) it refused = refl
