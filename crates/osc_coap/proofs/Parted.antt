-- The parts of a datagram and of a plaintext lie where their lengths say.
use Rattle.std.proofs.Common.{◌≡◌, ℕ, ◌+◌, ◌-◌, ◌≤◌, ◌<◌, List, [], ◌∷◌, ◌++◌, append_assoc, length, take, drop, refl, sym, ap, ◌∙◌, subst, arith}
use Rattle.std.proofs.lemmas.List.{take_at, drop_at, take_all, drop-drop, length-drop, length-append}
use Rattle.std.proofs.Math.Dec.{eqb-suc-zero}
use Rattle.std.proofs.lemmas.List.Elements.{All-drop}
use Rattle.osc_coap.specs.declared.message.Kind.{Kind}
use Rattle.osc_coap.specs.OptionSpelling.{Entry, AreBytes, Spells, marked, spelling_length}
use Rattle.osc_coap.specs.Datagram.{Parts, IsDatagram, head, kind_number}
use Rattle.osc_coap.specs.Inner.{InnerParts, IsInner}
use Rattle.osc_coap.specs.Reading.{Walk, AreOptions, options_in}
use Rattle.osc_coap.proofs.Bytes.{bytes_front, bytes_back}
use Rattle.osc_coap.specs.declared.head.Head.{Head}
use Rattle.osc_coap.specs.Seen.{ReadsHead}
use Rattle.osc_coap.specs.PayloadLength.{marked_length}
use Rattle.osc_coap.proofs.OneReading.{datagram_says, kind_one, kind_small}
use Rattle.osc_coap.proofs.Walks.{spelled_alone}
use Rattle.osc_coap.proofs.Texts.{text_length, datagram_text_length, inner_text_length}

-- a payload and its marker by the length of the payload
marked_is : (payload : List ℕ) → length (marked payload) ≡ marked_length (length payload)
marked_is [] = refl
marked_is (x ∷ payload) = rw (eqb-suc-zero (length payload)) (omega arith)

-- a payload is no longer than with its marker
marked_most : (payload : List ℕ) → length payload ≤ length (marked payload)
marked_most [] = omega arith
marked_most (x ∷ payload) = omega arith

-- the payload parted from all before it
regroup : (a b c d : List ℕ) → a ++ (b ++ (c ++ d)) ≡ (a ++ (b ++ c)) ++ d
regroup a b c d = simp append_assoc

-- behind the marker stands the payload
last_is : (payload front bytes : List ℕ) → bytes ≡ front ++ marked payload → take (length payload) (drop (length bytes - length payload) bytes) ≡ payload
last_is [] front bytes e = refl
last_is (x ∷ payload) front bytes e =
    let all : length bytes ≡ length (front ++ (255 ∷ x ∷ payload)) = ap length e in
    let at : length bytes - length (x ∷ payload) ≡ length front + 1 = omega (arith, all, length-append front (255 ∷ x ∷ payload)) in
    let behind : drop (length front + 1) bytes ≡ x ∷ payload = sym (drop-drop 1 (length front) bytes) ∙ ap (λ (z : List ℕ). drop 1 (drop (length front) z)) e ∙ ap (drop 1) (drop_at front (255 ∷ x ∷ payload) _ refl) in
    ap (take (length (x ∷ payload))) (ap (λ (m : ℕ). drop m bytes) at ∙ behind) ∙ take_all (length (x ∷ payload)) (x ∷ payload) (omega arith)

-- the options between two places, and the payload behind them
pub record Lies (options : List Entry) (payload bytes : List ℕ) (start end : ℕ) : Type 0 where
  pub ordered : start ≤ end
  pub within : end ≤ length bytes
  pub are : AreOptions 0 (take (end - start) (drop start bytes))
  pub options_are : options_in 0 (take (end - start) (drop start bytes)) ≡ options

-- where they lie is known by their length
lies : (options : List Entry) (payload bytes spelled : List ℕ) (start end : ℕ) → AreBytes spelled → Spells 0 options spelled → drop start bytes ≡ spelled ++ marked payload → start ≤ length bytes → end ≡ start + spelling_length 0 options → Lies options payload bytes start end
lies options payload bytes spelled start end small spells e le end_is =
    let long : length spelled ≡ spelling_length 0 options = text_length 0 options spelled small spells in
    let n : length spelled ≡ end - start = omega arith in
    let to : end ≡ start + length spelled = omega arith in
    let part : take (end - start) (drop start bytes) ≡ spelled = ap (take (end - start)) e ∙ take_at spelled (marked payload) _ n in
    let walked = spelled_alone options spelled spells in
    record {
      ordered = omega arith;
      within = omega (arith, ap length e, length-append spelled (marked payload), length-drop start bytes);
      are = rw part (record { are_bytes = small; spelling = ap (λ (w : Walk). w.rest) walked });
      options_are = ap (options_in 0) part ∙ ap (λ (w : Walk). w.options) walked;
    }

-- the token, the options and the payload of a datagram
pub record DatagramLies (p : Parts) (bytes : List ℕ) (token_end options_end : ℕ) : Type 0 where
  pub token : take (token_end - 4) (drop 4 bytes) ≡ p.token
  pub body : Lies p.options p.payload bytes token_end options_end

-- so they lie in each datagram
pub datagram_lies : (p : Parts) (bytes : List ℕ) (token_end options_end : ℕ) → IsDatagram p bytes → token_end ≡ 4 + length p.token → options_end ≡ 4 + length p.token + spelling_length 0 p.options → DatagramLies p bytes token_end options_end
datagram_lies p bytes token_end options_end h t o =
    let s = datagram_says p bytes h in
    let rest = s.rest in
    let long = s.long in
    let tokens : AreBytes (p.token ++ rest) = subst AreBytes s.after (All-drop (λ b. b < 256) 4 bytes h.are_bytes) in
    let rests : AreBytes (s.body.spelled ++ marked p.payload) = subst AreBytes s.body.whole (bytes_back p.token rest tokens) in
    let small : AreBytes s.body.spelled = bytes_front s.body.spelled (marked p.payload) rests in
    let n : length p.token ≡ token_end - 4 = omega arith in
    let behind : drop token_end bytes ≡ s.body.spelled ++ marked p.payload = ap (λ (m : ℕ). drop m bytes) t ∙ sym (drop-drop (length p.token) 4 bytes) ∙ ap (drop (length p.token)) s.after ∙ drop_at p.token rest _ refl ∙ s.body.whole in
    let le : token_end ≤ length bytes = omega (arith, ap length s.after, length-append p.token rest, length-drop 4 bytes) in
    let to : options_end ≡ token_end + spelling_length 0 p.options = omega arith in
    record {
      token = ap (take (token_end - 4)) s.after ∙ take_at p.token rest _ n;
      body = lies p.options p.payload bytes s.body.spelled token_end options_end small s.body.spells behind le to;
    }

-- a message with the fields of a datagram is that datagram's
pub datagram_is : (p : Parts) (bytes : List ℕ) (kind : Kind) (code id : ℕ) (token : List ℕ) (options : List Entry) (payload : List ℕ) → IsDatagram p bytes → kind ≡ p.kind → code ≡ p.code → id ≡ p.message_id → token ≡ p.token → options ≡ p.options → payload ≡ p.payload
    → IsDatagram (record { kind = kind; code = code; message_id = id; token = token; options = options; payload = payload }) bytes
datagram_is p bytes kind code id token options payload h a b c d e f =
    rw (a, b, c, d, e, f) (record { are_bytes = h.are_bytes; fits = h.fits; token = h.token; spelled = h.spelled; spells = h.spells; whole = h.whole; empty = h.empty })

-- the options and the payload of a plaintext
pub inner_lies : (p : InnerParts) (bytes : List ℕ) (options_end : ℕ) → IsInner p bytes → options_end ≡ 1 + spelling_length 0 p.options → Lies p.options p.payload bytes 1 options_end
inner_lies p bytes options_end h o =
    let small = bytes_front h.spelled (marked p.payload) (bytes_back (p.code ∷ []) _ (subst AreBytes h.whole h.are_bytes)) in
    let behind : drop 1 bytes ≡ h.spelled ++ marked p.payload = ap (λ (y : List ℕ). drop 1 y) h.whole in
    let le : 1 ≤ length bytes = omega (arith, ap length h.whole) in
    lies p.options p.payload bytes h.spelled 1 options_end small h.spells behind le o

-- what has the fields of a plaintext is that plaintext's
pub inner_is : (p : InnerParts) (bytes : List ℕ) (code : ℕ) (options : List Entry) (payload : List ℕ) → IsInner p bytes → code ≡ p.code → options ≡ p.options → payload ≡ p.payload
    → IsInner (record { code = code; options = options; payload = payload }) bytes
inner_is p bytes code options payload h a b c =
    rw (a, b, c) (record { are_bytes = h.are_bytes; fits = h.fits; spelled = h.spelled; spells = h.spells; whole = h.whole })

-- the fields of its head are those of the datagram
pub head_fields : (p : Parts) (bytes : List ℕ) (h : Head) → IsDatagram p bytes → ReadsHead h bytes → (h.kind ≡ p.kind) × (h.code ≡ p.code) × (h.message_id ≡ p.message_id) × (h.token_len ≡ length p.token)
head_fields p bytes h is reads =
    let s = datagram_says p bytes is in
    let first = s.first in
    let short = is.token in
    let small = kind_small p.kind in
    let bits : kind_number h.kind ≡ kind_number p.kind = omega (arith, reads.kind, first) in
    let high = s.high in
    let low = s.low in
    (kind_one h.kind p.kind bits, reads.code ∙ s.code, omega (arith, reads.message_id, high, low), omega (arith, reads.token_length, first))

-- the options of a datagram end before its payload and its marker
pub options_end : (p : Parts) (bytes : List ℕ) (payload_len : ℕ) → IsDatagram p bytes → payload_len ≡ length p.payload → length bytes - marked_length payload_len ≡ 4 + length p.token + spelling_length 0 p.options
options_end p bytes payload_len h e =
    let long = datagram_text_length p bytes h in
    let behind : length (marked p.payload) ≡ marked_length payload_len = marked_is p.payload ∙ ap marked_length (sym e) in
    omega (arith, long, behind)

-- so do those of a plaintext
pub inner_options_end : (p : InnerParts) (bytes : List ℕ) (payload_len : ℕ) → IsInner p bytes → payload_len ≡ length p.payload → length bytes - marked_length payload_len ≡ 1 + spelling_length 0 p.options
inner_options_end p bytes payload_len h e =
    let long = inner_text_length p bytes h in
    let behind : length (marked p.payload) ≡ marked_length payload_len = marked_is p.payload ∙ ap marked_length (sym e) in
    omega (arith, long, behind)

-- the payload of a datagram stands last
pub payload_last : (p : Parts) (bytes : List ℕ) (payload_len : ℕ) → IsDatagram p bytes → payload_len ≡ length p.payload → take (length bytes - (length bytes - payload_len)) (drop (length bytes - payload_len) bytes) ≡ p.payload
payload_last p bytes payload_len h e =
    let whole : bytes ≡ (head p ++ (p.token ++ h.spelled)) ++ marked p.payload = h.whole ∙ regroup (head p) p.token h.spelled (marked p.payload) in
    let long = datagram_text_length p bytes h in
    let room : length bytes - (length bytes - payload_len) ≡ length p.payload = omega (arith, e, long, marked_most p.payload) in
    ap (λ (n : ℕ). take n (drop (length bytes - payload_len) bytes)) room ∙ ap (λ (n : ℕ). take (length p.payload) (drop (length bytes - n) bytes)) e ∙ last_is p.payload (head p ++ (p.token ++ h.spelled)) bytes whole

-- so does that of a plaintext
pub inner_payload_last : (p : InnerParts) (bytes : List ℕ) (payload_len : ℕ) → IsInner p bytes → payload_len ≡ length p.payload → take (length bytes - (length bytes - payload_len)) (drop (length bytes - payload_len) bytes) ≡ p.payload
inner_payload_last p bytes payload_len h e =
    let whole : bytes ≡ (p.code ∷ h.spelled) ++ marked p.payload = h.whole in
    let long = inner_text_length p bytes h in
    let room : length bytes - (length bytes - payload_len) ≡ length p.payload = omega (arith, e, long, marked_most p.payload) in
    ap (λ (n : ℕ). take n (drop (length bytes - payload_len) bytes)) room ∙ ap (λ (n : ℕ). take (length p.payload) (drop (length bytes - n) bytes)) e ∙ last_is p.payload (p.code ∷ h.spelled) bytes whole
