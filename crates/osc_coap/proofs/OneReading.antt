-- Bytes have one reading.
use Rattle.std.proofs.Common.{◌≡◌, ℕ, ◌+◌, ◌*◌, ◌/◌, ◌%◌, ◌<◌, ◌≤◌, List, [], ◌∷◌, ◌++◌, length, take, drop, get_or, Option, Some, None, refl, sym, ap, subst, ◌∙◌, arith, inl, inr}
use Rattle.std.proofs.lemmas.List.{length-append, length-drop, drop-drop, drop_at, take_at}
use Rattle.osc_coap.specs.declared.format_error.Fault.{Fault}
use Rattle.osc_coap.specs.declared.format_error.Fault.TheVariants.{DatagramTooLong, Short, Version, TokenLength, EmptyWithRest, TokenCut, Nibble15, OptionCut, NumberTooLarge, EmptyPayload}
use Rattle.osc_coap.specs.Reading.{Walk, walk}
use Rattle.osc_coap.specs.declared.message.Kind.{Kind}
use Rattle.osc_coap.specs.declared.message.Kind.TheVariants.{Con, Non, Ack, Rst}
use Rattle.std.proofs.lemmas.Bool.Decides.{eqb_tells}
use Rattle.osc_coap.proofs.Pieces.{nibble_small, option_pieces}
use Rattle.osc_coap.proofs.Parts.{fault_again}
use Rattle.osc_coap.proofs.Walks.{EndsAt, walk_again}
use Rattle.osc_coap.specs.OptionSpelling.{Entry, Spells, last_number, marked}
use Rattle.osc_coap.specs.Fault.{IsFaulty, HasItemFault, HasWholeHead, HasFault, code_of, token_length_of}
use Rattle.osc_coap.specs.Ends.{IsBody}
use Rattle.osc_coap.specs.Datagram.{Parts, kind_number, IsDatagram}

-- a spelling is of one list
pub spells_one : (d : ℕ) (xs ys : List Entry) (text : List ℕ) → Spells d xs text → Spells d ys text → xs ≡ ys
spells_one d xs ys text p q =
    let a = walk_again d xs text [] None p tt in
    let b = walk_again d ys text [] None q tt in
    ap (λ (w : Walk). w.options) (sym a ∙ b)

-- a walk ends where a payload or nothing follows
marked_ends : (d : ℕ) (payload : List ℕ) → EndsAt d (marked payload) None
marked_ends d [] = tt
marked_ends d (x ∷ payload) = refl

-- a payload is known by its marked bytes
marked_one : (xs ys : List ℕ) → marked xs ≡ marked ys → xs ≡ ys
marked_one [] [] e = refl
marked_one [] (y ∷ ys) e = absurd cc
marked_one (x ∷ xs) [] e = absurd cc
marked_one (x ∷ xs) (y ∷ ys) e = cc

-- the walk over options and a payload ends at the payload
pub body_walk : (options : List Entry) (payload bytes : List ℕ) (h : IsBody options payload bytes) → walk 0 bytes ≡ record { options = options; rest = marked payload; fault = None }
body_walk options payload bytes h = ap (walk 0) h.whole ∙ walk_again 0 options h.spelled (marked payload) None h.spells (marked_ends _ payload)

-- bytes are one list of options and one payload at most
pub body_one : (xs ys : List Entry) (p q bytes : List ℕ) → IsBody xs p bytes → IsBody ys q bytes → (xs ≡ ys) × (p ≡ q)
body_one xs ys p q bytes h k =
    let e = sym (body_walk xs p bytes h) ∙ body_walk ys q bytes k in
    (ap (λ (w : Walk). w.options) e, marked_one p q (ap (λ (w : Walk). w.rest) e))

-- ---- faulty items

-- only an empty payload stands at a marker
at_marker : (d b : ℕ) (rest : List ℕ) (f : Fault) → b ≡ 255 → IsFaulty d f (b ∷ rest) → f ≡ EmptyPayload
at_marker d b rest EmptyPayload e h = refl
at_marker d b rest Nibble15 e h = absurd (h.0 e)
at_marker d b rest OptionCut e h = absurd (h.0 (omega arith))
at_marker d b rest NumberTooLarge e h = let p = nibble_small _ _ _ (option_pieces h.0 h.1 h.2 b rest h.3).delta_is in absurd (omega arith)
at_marker d b rest DatagramTooLong e h = absurd h
at_marker d b rest Short e h = absurd h
at_marker d b rest Version e h = absurd h
at_marker d b rest TokenLength e h = absurd h
at_marker d b rest EmptyWithRest e h = absurd h
at_marker d b rest TokenCut e h = absurd h

-- an item has one fault
pub fault_one : (d : ℕ) (rest : List ℕ) (f g : Fault) → IsFaulty d f rest → IsFaulty d g rest → f ≡ g
fault_one d [] f g p q = absurd p
fault_one d (b ∷ rest) f g p q =
    elim (eqb_tells b 255) [
      | inl e ↦ at_marker d b rest f e.1 p ∙ sym (at_marker d b rest g e.1 q)
      | inr e ↦ let x = fault_again d b rest f e.1 p in let y = fault_again d b rest g e.1 q in cc
    ]

-- the walk ends at a faulty item
item_ends : (d : ℕ) (f : Fault) (rest : List ℕ) → IsFaulty d f rest → (o : Option Fault) × EndsAt d rest o × ((o ≡ None) → f ≡ EmptyPayload)
item_ends d f [] h = absurd h
item_ends d f (b ∷ rest) h =
    elim (eqb_tells b 255) [
      | inl e ↦ (None, e.1, λ o. at_marker d b rest f e.1 h)
      | inr e ↦ (Some f, (e.1, h), λ o. absurd (let x : Some f ≡ None = o in cc))
    ]

-- the walk over bytes with a faulty item ends there
pub item_walk : (bytes : List ℕ) (f : Fault) (at : ℕ) (h : HasItemFault bytes f at) → (o : Option Fault) × (walk 0 bytes ≡ record { options = h.options; rest = h.rest; fault = o }) × ((o ≡ None) → f ≡ EmptyPayload)
item_walk bytes f at h =
    let e = item_ends _ f h.rest h.faulty in
    (e.0, ap (walk 0) h.whole ∙ walk_again 0 h.options h.spelled h.rest e.0 h.spells e.1, e.2)

-- bytes have one faulty item that comes first
pub item_one : (bytes : List ℕ) (f g : Fault) (at bt : ℕ) → HasItemFault bytes f at → HasItemFault bytes g bt → (f ≡ g) × (at ≡ bt)
item_one bytes f g at bt h k =
    let x = item_walk bytes f at h in
    let y = item_walk bytes g bt k in
    let e = sym x.1 ∙ y.1 in
    let options : h.options ≡ k.options = ap (λ (w : Walk). w.options) e in
    let rest : h.rest ≡ k.rest = ap (λ (w : Walk). w.rest) e in
    let moved = subst (λ (os : List Entry). IsFaulty (last_number 0 os) f k.rest) options (subst (λ (r : List ℕ). IsFaulty (last_number 0 h.options) f r) rest h.faulty) in
    let p = h.place_is in
    let q = k.place_is in
    let n : at ≡ bt = omega (arith, ap length h.whole, ap length k.whole, length-append h.spelled h.rest, length-append k.spelled k.rest, ap length rest) in
    (fault_one (last_number 0 k.options) k.rest f g moved k.faulty, n)

-- a marker at the end is no payload
empty_ends : (d : ℕ) (rest payload : List ℕ) → IsFaulty d EmptyPayload rest → marked payload ≡ rest → ⊥
empty_ends d [] payload h e = h
empty_ends d (b ∷ rest) [] h e = cc
empty_ends d (b ∷ rest) (x ∷ payload) h e = let n = h.1 in cc

-- options and a payload have no faulty item
pub body_never_item : (options : List Entry) (payload bytes : List ℕ) (f : Fault) (at : ℕ) → IsBody options payload bytes → HasItemFault bytes f at → ⊥
body_never_item options payload bytes f at h k =
    let y = item_walk bytes f at k in
    let e = sym (body_walk options payload bytes h) ∙ y.1 in
    let none : y.0 ≡ None = sym (ap (λ (w : Walk). w.fault) e) in
    let f-is = y.2 none in
    empty_ends (last_number 0 k.options) k.rest payload (subst (λ (g : Fault). IsFaulty (last_number 0 k.options) g k.rest) f-is k.faulty) (ap (λ (w : Walk). w.rest) e)

-- ---- datagrams

-- what the bytes of a datagram say, one by one
pub record DatagramSays (p : Parts) (bytes : List ℕ) : Type 0 where
  pub long : 4 ≤ length bytes
  pub first : get_or bytes 0 0 ≡ 64 + 16 * kind_number p.kind + length p.token
  pub code : get_or bytes 1 0 ≡ p.code
  pub high : get_or bytes 2 0 ≡ p.message_id / 256
  pub low : get_or bytes 3 0 ≡ p.message_id % 256
  pub rest : List ℕ
  pub after : drop 4 bytes ≡ p.token ++ rest
  pub body : IsBody p.options p.payload rest

-- so does each datagram
pub datagram_says : (p : Parts) (bytes : List ℕ) → IsDatagram p bytes → DatagramSays p bytes
datagram_says p bytes h =
    let rest = h.spelled ++ marked p.payload in
    rw h.whole (record { long = omega arith; first = refl; code = refl; high = refl; low = refl; rest = rest; after = refl; body = record { spelled = h.spelled; spells = h.spells; whole = refl } })

-- a kind takes two bits
pub kind_small : (k : Kind) → kind_number k < 4
kind_small Con = omega arith
kind_small Non = omega arith
kind_small Ack = omega arith
kind_small Rst = omega arith

-- a datagram has a fine head and a whole token
pub datagram_head : (p : Parts) (bytes : List ℕ) → IsDatagram p bytes → HasWholeHead bytes × (code_of bytes ≡ p.code) × (token_length_of bytes ≡ length p.token) × (4 + token_length_of bytes ≤ length bytes)
datagram_head p bytes h =
    let s = datagram_says p bytes h in
    let f = s.first in
    let k = kind_small p.kind in
    let t = h.token in
    let token : token_length_of bytes ≡ length p.token = omega arith in
    let long = s.long in
    (record { fits = h.fits; whole = s.long; version = omega arith; token_length = omega arith }, s.code, token, omega (arith, ap length s.after, length-append p.token s.rest, length-drop 4 bytes))

-- behind its token stand its options and its payload
pub datagram_body : (p : Parts) (bytes : List ℕ) → IsDatagram p bytes → IsBody p.options p.payload (drop (4 + token_length_of bytes) bytes)
datagram_body p bytes h =
    let s = datagram_says p bytes h in
    let t = (datagram_head p bytes h).2 in
    let at : drop (4 + token_length_of bytes) bytes ≡ s.rest = sym (drop-drop (token_length_of bytes) 4 bytes) ∙ ap (drop (token_length_of bytes)) s.after ∙ drop_at p.token s.rest _ (sym t) in
    rw at s.body

-- a datagram has no fault
pub never_both : (p : Parts) (bytes : List ℕ) (f : Fault) (place : ℕ) → IsDatagram p bytes → HasFault bytes f place → ⊥
never_both p bytes DatagramTooLong place h k = let fits = h.fits in omega (arith, k.0)
never_both p bytes Short place h k = let w = (datagram_head p bytes h).0.whole in omega (arith, k.0)
never_both p bytes Version place h k = k.2 (datagram_head p bytes h).0.version
never_both p bytes TokenLength place h k = let w = (datagram_head p bytes h).0.token_length in omega (arith, k.3)
never_both p bytes EmptyWithRest place h k =
    let d = datagram_head p bytes h in
    let n = h.empty (sym d.1 ∙ k.1) in
    elim k.2 [
      | inl x ↦ x.0 (let l = d.3 in omega arith)
      | inr x ↦ omega (arith, x.1)
    ]
never_both p bytes TokenCut place h k = let l = (datagram_head p bytes h).3 in omega (arith, k.2)
never_both p bytes Nibble15 place h k = body_never_item _ _ _ Nibble15 k.1.0 (datagram_body p bytes h) k.1.2
never_both p bytes OptionCut place h k = body_never_item _ _ _ OptionCut k.1.0 (datagram_body p bytes h) k.1.2
never_both p bytes NumberTooLarge place h k = body_never_item _ _ _ NumberTooLarge k.1.0 (datagram_body p bytes h) k.1.2
never_both p bytes EmptyPayload place h k = body_never_item _ _ _ EmptyPayload k.1.0 (datagram_body p bytes h) k.1.2

-- ---- one datagram, one fault

-- two bits name one kind alone
pub kind_one : (j k : Kind) → kind_number j ≡ kind_number k → j ≡ k
kind_one Con Con e = refl
kind_one Con Non e = absurd (omega arith)
kind_one Con Ack e = absurd (omega arith)
kind_one Con Rst e = absurd (omega arith)
kind_one Non Con e = absurd (omega arith)
kind_one Non Non e = refl
kind_one Non Ack e = absurd (omega arith)
kind_one Non Rst e = absurd (omega arith)
kind_one Ack Con e = absurd (omega arith)
kind_one Ack Non e = absurd (omega arith)
kind_one Ack Ack e = refl
kind_one Ack Rst e = absurd (omega arith)
kind_one Rst Con e = absurd (omega arith)
kind_one Rst Non e = absurd (omega arith)
kind_one Rst Ack e = absurd (omega arith)
kind_one Rst Rst e = refl

-- parts that agree in each field
same_parts : (j k : Kind) (a b c d : ℕ) (x y : List ℕ) (es fs : List Entry) (u v : List ℕ) → j ≡ k → a ≡ b → c ≡ d → x ≡ y → es ≡ fs → u ≡ v
    → ◌≡◌ {A = Parts} (record { kind = j; code = a; message_id = c; token = x; options = es; payload = u }) (record { kind = k; code = b; message_id = d; token = y; options = fs; payload = v })
same_parts j k a b c d x y es fs u v e0 e1 e2 e3 e4 e5 = rw (e0, e1, e2, e3, e4, e5) refl

-- bytes are the datagram of one message at most
pub datagram_one : (p q : Parts) (bytes : List ℕ) → IsDatagram p bytes → IsDatagram q bytes → p ≡ q
datagram_one p q bytes h k =
    let s = datagram_says p bytes h in
    let t = datagram_says q bytes k in
    let e1 = s.first in
    let e2 = t.first in
    let l1 = h.token in
    let l2 = k.token in
    let n1 = kind_small p.kind in
    let n2 = kind_small q.kind in
    let kinds : kind_number p.kind ≡ kind_number q.kind = omega arith in
    let lens : length p.token ≡ length q.token = omega arith in
    let a1 = s.high in
    let a2 = t.high in
    let b1 = s.low in
    let b2 = t.low in
    let ids : p.message_id ≡ q.message_id = omega arith in
    let both : p.token ++ s.rest ≡ q.token ++ t.rest = sym s.after ∙ t.after in
    let tokens : p.token ≡ q.token = sym (take_at p.token s.rest (length p.token) refl) ∙ ap (take (length p.token)) both ∙ take_at q.token t.rest (length p.token) (sym lens) in
    let body = body_one p.options q.options p.payload q.payload _ (datagram_body p bytes h) (datagram_body q bytes k) in
    same_parts p.kind q.kind p.code q.code p.message_id q.message_id p.token q.token p.options q.options p.payload q.payload (kind_one p.kind q.kind kinds) (sym s.code ∙ t.code) ids tokens body.0 body.1
