-- The same code, options and payload under another head.
use Rattle.std.proofs.Common.{◌≡◌, ◌≢◌, ◌∙◌, ℕ, suc, ◌+◌, ◌-◌, ◌≤◌, List, [], ◌∷◌, ◌++◌, append_assoc, ap, arith, drop, length, length-take, refl, subst, sym, take, true}
use Rattle.std.proofs.lemmas.List.{append-nil, drop-drop, drop_at, length-append, take-append-drop}
use Rattle.osc_coap.specs.Code.{is_response_code}
use Rattle.osc_coap.specs.Datagram.{Parts, IsDatagram, head}
use Rattle.osc_coap.specs.OptionSpelling.{AreBytes, marked}
use Rattle.osc_coap.specs.OptionText.{placed}
use Rattle.osc_coap.specs.Writing.{bare}
use Rattle.osc_coap.specs.declared.message.Kind.{Kind}
use Rattle.osc_coap.proofs.Bytes.{bytes_append, bytes_back}
use Rattle.osc_coap.proofs.Placed.{behind_placed, front_placed}

-- a response's code isn't 0.00
pub some_code : (code : ℕ) → is_response_code code ≡ true → code ≢ 0
some_code code is zero-is = let bad : is_response_code 0 ≡ true = subst (λ (c : ℕ). is_response_code c ≡ true) zero-is is in cc

-- what lies behind a head and a token
behind_head : (a b c d n : ℕ) (token rest : List ℕ) → n ≡ 4 + length token → drop n (a ∷ b ∷ c ∷ d ∷ (token ++ rest)) ≡ rest
behind_head a b c d n token rest n-is =
    let far : n ≡ suc (suc (suc (suc (length token)))) = omega arith in
    ap (λ (k : ℕ). drop k (a ∷ b ∷ c ∷ d ∷ (token ++ rest))) far ∙ drop_at token rest (length token) refl

-- the rest of a datagram is the spelling of its options and its payload behind the marker
rest_is : (p : Parts) (d : List ℕ) (n : ℕ) (h : IsDatagram p d) → n ≡ 4 + length p.token → drop n d ≡ h.spelled ++ marked p.payload
rest_is p d n h n-is = ap (drop n) h.whole ∙ behind_head _ _ _ _ n p.token (h.spelled ++ marked p.payload) n-is

front_is : (kind : Kind) (code id : ℕ) (token front : List ℕ) → IsDatagram (bare kind code id token) front → front ≡ head (bare kind code id token) ++ token
front_is kind code id token front f =
    f.whole ∙ ap (λ (z : List ℕ). head (bare kind code id token) ++ (token ++ (z ++ []))) f.spells ∙ ap (λ (z : List ℕ). head (bare kind code id token) ++ z) (append-nil token)

joined : (p : Parts) (d front : List ℕ) (kind : Kind) (id : ℕ) (token : List ℕ) (n : ℕ) → IsDatagram p d → p.code ≢ 0 → n ≡ 4 + length p.token
    → IsDatagram (bare kind p.code id token) front → length (front ++ drop n d) ≤ 65535
    → IsDatagram (record p { kind = kind; message_id = id; token = token }) (front ++ drop n d)
joined p d front kind id token n h some n-is f fits =
    let rest = rest_is p d n h n-is in
    let bytes : AreBytes (take n d ++ drop n d) = subst AreBytes (sym (take-append-drop n d)) h.are_bytes in
    record {
      are_bytes = bytes_append front (drop n d) f.are_bytes (bytes_back (take n d) (drop n d) bytes);
      fits = fits;
      token = f.token;
      spelled = h.spelled;
      spells = h.spells;
      whole = ap (λ (z : List ℕ). z ++ drop n d) (front_is kind p.code id token front f) ∙ ap (λ (z : List ℕ). (head (bare kind p.code id token) ++ token) ++ z) rest
          ∙ append_assoc (head (bare kind p.code id token)) token (h.spelled ++ marked p.payload);
      empty = λ e. absurd (some e);
    }

-- a reply whose head and token are written anew, and whose rest is copied behind them
pub under_new_head : (p : Parts) (d rest : List ℕ) (kind : Kind) (id : ℕ) (token : List ℕ) (n start end : ℕ) (first new : List ℕ) → IsDatagram p d → p.code ≢ 0
    → n ≡ 4 + length p.token → rest ≡ drop n d → IsDatagram (bare kind p.code id token) (take start first) → start ≤ length first → start + length rest ≤ 65535
    → new ≡ placed start rest first → end ≡ start + length rest → IsDatagram (record p { kind = kind; message_id = id; token = token }) (take end new)
under_new_head p d rest kind id token n start end first new h some n-is rest-is f room fits placed-is end-is =
    let whole : take end new ≡ take start first ++ drop n d = ap (take end) placed-is ∙ front_placed start end rest first end-is room ∙ ap (λ (z : List ℕ). take start first ++ z) rest-is in
    let same : length rest ≡ length (drop n d) = ap length rest-is in
    let long : length (take start first ++ drop n d) ≤ 65535 = omega (arith, length-append (take start first) (drop n d), length-take start first) in
    subst (λ (z : List ℕ). IsDatagram (record p { kind = kind; message_id = id; token = token }) z) (sym whole) (joined p d (take start first) kind id token n h some n-is f long)

-- what lies behind both stays
pub behind_both : (start end : ℕ) (text old first new : List ℕ) → drop start first ≡ drop start old → start ≤ length first → new ≡ placed start text first
    → end ≡ start + length text → drop end new ≡ drop end old
behind_both start end text old first new same room placed-is end-is =
    let m : ℕ = end - start in
    let far : end ≡ start + m = omega arith in
    ap (drop end) placed-is ∙ behind_placed start end text first end-is room
    ∙ ap (λ (k : ℕ). drop k first) far ∙ sym (drop-drop m start first) ∙ ap (drop m) same ∙ drop-drop m start old ∙ ap (λ (k : ℕ). drop k old) (sym far)
