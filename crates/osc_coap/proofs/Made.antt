-- What the fields in front and the body behind them make whole.
use Rattle.std.proofs.Common.{◌≡◌, ℕ, suc, ◌+◌, ◌-◌, ◌*◌, ◌/◌, ◌%◌, ◌<◌, ◌≤◌, List, [], ◌∷◌, ◌++◌, length, take, drop, get_or, refl, sym, ap, ◌∙◌, arith}
use Rattle.std.proofs.lemmas.List.{length-take, take-append-drop}
use Rattle.std.proofs.lemmas.List.Elements.{All-get_or}
use Rattle.osc_coap.specs.OptionSpelling.{AreBytes, marked}
use Rattle.osc_coap.specs.Ends.{IsBody}
use Rattle.osc_coap.specs.Datagram.{Parts, kind_number, IsDatagram}
use Rattle.osc_coap.specs.Inner.{InnerParts, IsInner}
use Rattle.osc_coap.specs.Fault.{HasWholeHead, HasCode, code_of, token_length_of}

-- the first four bytes from the fields that they hold
head_made : (a b c d kind_bits code id token_length : ℕ) → d < 256 → a / 64 ≡ 1 → kind_bits ≡ a / 16 % 4 → code ≡ b → id ≡ 256 * c + d → token_length ≡ a % 16
    → ◌≡◌ {A = List ℕ} (a ∷ b ∷ c ∷ d ∷ []) ((64 + 16 * kind_bits + token_length) ∷ code ∷ (id / 256) ∷ (id % 256) ∷ [])
head_made a b c d kind_bits code id token_length small version k e i t =
    let first : 64 + 16 * kind_bits + token_length ≡ a = omega arith in
    let high : id / 256 ≡ c = omega arith in
    let low : id % 256 ≡ d = omega arith in
    rw (first, e, high, low) refl

-- a datagram from its head's fields, its token and the body behind it
pub datagram_made : (p : Parts) (bytes : List ℕ) (end : ℕ) → AreBytes bytes → HasWholeHead bytes → kind_number p.kind ≡ get_or bytes 0 0 / 16 % 4 → p.code ≡ code_of bytes → p.message_id ≡ 256 * get_or bytes 2 0 + get_or bytes 3 0
    → end ≡ 4 + token_length_of bytes → end ≤ length bytes → p.token ≡ take (end - 4) (drop 4 bytes) → (p.code ≡ 0 → length bytes ≡ 4) → IsBody p.options p.payload (drop end bytes) → IsDatagram p bytes
datagram_made p [] end small h k e i is within t empty body = let w = h.whole in absurd (omega arith)
datagram_made p (a ∷ []) end small h k e i is within t empty body = let w = h.whole in absurd (omega arith)
datagram_made p (a ∷ b ∷ []) end small h k e i is within t empty body = let w = h.whole in absurd (omega arith)
datagram_made p (a ∷ b ∷ c ∷ []) end small h k e i is within t empty body = let w = h.whole in absurd (omega arith)
datagram_made p (a ∷ b ∷ c ∷ d ∷ rest) end small h k e i is within t empty body =
    let low : d < 256 = All-get_or (λ x. x < 256) (a ∷ b ∷ c ∷ d ∷ rest) 3 0 (omega arith) small in
    let n : end - 4 ≡ a % 16 = omega arith in
    let back : end ≡ suc (suc (suc (suc (a % 16)))) = omega arith in
    let token : p.token ≡ take (a % 16) rest = t ∙ ap (λ (m : ℕ). take m rest) n in
    let tokens = h.token_length in
    let version = h.version in
    let long : length p.token ≡ a % 16 = ap length token ∙ (let l : length (take (a % 16) rest) ≡ a % 16 = omega (arith, length-take (a % 16) rest) in l) in
    let behind : drop (a % 16) rest ≡ body.spelled ++ marked p.payload = ap (λ (m : ℕ). drop m (a ∷ b ∷ c ∷ d ∷ rest)) (sym back) ∙ body.whole in
    let all : rest ≡ p.token ++ (body.spelled ++ marked p.payload) = sym (take-append-drop (a % 16) rest) ∙ ap (λ (y : List ℕ). y ++ drop (a % 16) rest) (sym token) ∙ ap (λ (y : List ℕ). p.token ++ y) behind in
    let first = head_made a b c d (kind_number p.kind) p.code p.message_id (length p.token) low version k e i long in
    record {
      are_bytes = small;
      fits = h.fits;
      token = omega arith;
      spelled = body.spelled;
      spells = body.spells;
      whole = ap (λ (y : List ℕ). (a ∷ b ∷ c ∷ d ∷ []) ++ y) all ∙ ap (λ (y : List ℕ). y ++ (p.token ++ (body.spelled ++ marked p.payload))) first;
      empty = empty;
    }

-- a plaintext from its code and the body behind it
pub inner_made : (p : InnerParts) (bytes : List ℕ) → AreBytes bytes → HasCode bytes → p.code ≡ get_or bytes 0 0 → IsBody p.options p.payload (drop 1 bytes) → IsInner p bytes
inner_made p [] small h e body = let w = h.whole in absurd (omega arith)
inner_made p (a ∷ rest) small h e body =
    record {
      are_bytes = small;
      fits = h.fits;
      spelled = body.spelled;
      spells = body.spells;
      whole = ap (λ (c : ℕ). c ∷ rest) (sym e) ∙ ap (λ (y : List ℕ). p.code ∷ y) body.whole;
    }
