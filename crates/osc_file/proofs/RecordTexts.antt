-- The words of a record's line: none has a space in it, so each ends at the first one.
use Rattle.std.proofs.Common.{◌≡◌, ◌≢◌, ℕ, zero, suc, ◌<◌, ◌^◌, true, List, [], ◌∷◌, ◌++◌, length, get_or, Some, refl, ap, ◌∙◌, subst, arith}
use Rattle.std.proofs.lemmas.List.{append_assoc}
use Rattle.std.proofs.lemmas.Fmt.{decimal_is_IsNumeral}
use Rattle.std.specs.Char.{digit_value}
use Rattle.std.specs.Fmt.{decimal}
use Rattle.std.specs.Str.Parse.{AllDigits}
use Rattle.hex.specs.Hex.{IsBytes, encode_lower, is_hex_digit}
use Rattle.hex.proofs.HexLemmas.{IsOk-decode_sized, decode_sized-encode_lower}
use Rattle.osc_file.specs.RecordText.{checksum_of, fields_of, line_of}
use Rattle.osc_file.specs.declared.record.Record.{Record}

-- no byte of the word is a space
abbrev pub HasNoSpace : List ℕ → Type 0
HasNoSpace word = (i : ℕ) → i < length word → get_or word i 0 ≢ 32

digit_is_no_space : (c : ℕ) → digit_value c < 10 → c ≢ 32
digit_is_no_space c h e =
    let P : ℕ → Type 0 = λ z. digit_value z < 10 in
    let k : digit_value 32 < 10 = subst P e h in
    absurd (omega (arith, k))

digits_have_no_space : (ds : List ℕ) → AllDigits 10 ds → HasNoSpace ds
digits_have_no_space [] h i lt e = absurd (omega (arith, lt))
digits_have_no_space (c ∷ cs) h zero lt e = digit_is_no_space c h.0 e
digits_have_no_space (c ∷ cs) h (suc i) lt e = digits_have_no_space cs h.1 i (omega (arith, lt)) e

-- a number's digits have no space
pub decimal_has_no_space : (n : ℕ) → n < 2 ^ 64 → HasNoSpace (decimal n)
decimal_has_no_space n small = digits_have_no_space (decimal n) (decimal_is_IsNumeral n small).0.1

-- hex digits have no space
pub hex_has_no_space : (bytes : List ℕ) → IsBytes bytes → HasNoSpace (encode_lower bytes)
hex_has_no_space bytes h i lt e =
    let read = decode_sized-encode_lower bytes (length bytes) refl h in
    let digits = ((IsOk-decode_sized (encode_lower bytes) (length bytes)).0 (rw read refl)).1 in
    let P : ℕ → Type 0 = λ z. is_hex_digit z ≡ true in
    let one : is_hex_digit 32 ≡ true = subst P e (digits i 0 lt) in
    cc one

-- a word, a space and what is grouped behind them
after : (t x y z : List ℕ) → y ++ t ≡ z → (x ++ 32 ∷ y) ++ t ≡ x ++ 32 ∷ z
after t x y z h = append_assoc x (32 ∷ y) t ∙ ap (λ (w : List ℕ). x ++ 32 ∷ w) h

-- six words with a space between them, and what follows, grouped from the right
grouped : (a b c d e f t : List ℕ) → (a ++ 32 ∷ (b ++ 32 ∷ (c ++ 32 ∷ (d ++ 32 ∷ (e ++ 32 ∷ f))))) ++ t ≡ a ++ 32 ∷ (b ++ 32 ∷ (c ++ 32 ∷ (d ++ 32 ∷ (e ++ 32 ∷ (f ++ t)))))
grouped a b c d e f t =
    let at_e = after t e f (f ++ t) refl in
    let at_d = after t d (e ++ 32 ∷ f) (e ++ 32 ∷ (f ++ t)) at_e in
    let at_c = after t c (d ++ 32 ∷ (e ++ 32 ∷ f)) (d ++ 32 ∷ (e ++ 32 ∷ (f ++ t))) at_d in
    let at_b = after t b (c ++ 32 ∷ (d ++ 32 ∷ (e ++ 32 ∷ f))) (c ++ 32 ∷ (d ++ 32 ∷ (e ++ 32 ∷ (f ++ t)))) at_c in
    after t a (b ++ 32 ∷ (c ++ 32 ∷ (d ++ 32 ∷ (e ++ 32 ∷ f)))) (b ++ 32 ∷ (c ++ 32 ∷ (d ++ 32 ∷ (e ++ 32 ∷ (f ++ t))))) at_b

-- what follows each field in a record's line
abbrev pub after_inode : Record → List ℕ
after_inode r = checksum_of (fields_of r) ++ 10 ∷ []

abbrev pub after_device : Record → List ℕ
after_device r = decimal r.owner.inode ++ 32 ∷ after_inode r

abbrev pub after_fingerprint : Record → List ℕ
after_fingerprint r = decimal r.owner.device ++ 32 ∷ after_device r

abbrev pub after_received : Record → List ℕ
after_received r = encode_lower r.owner.fingerprint ++ 32 ∷ after_fingerprint r

abbrev pub after_sender : Record → List ℕ
after_sender r = decimal r.numbers.received ++ 32 ∷ after_received r

abbrev pub after_generation : Record → List ℕ
after_generation r = decimal r.numbers.sender ++ 32 ∷ after_sender r

-- a record's line begins with its generation
pub line_by_words : (r : Record) → line_of r ≡ decimal r.generation ++ 32 ∷ after_generation r
unfolding line_of fields_of
line_by_words r = grouped (decimal r.generation) (decimal r.numbers.sender) (decimal r.numbers.received) (encode_lower r.owner.fingerprint) (decimal r.owner.device) (decimal r.owner.inode) (32 ∷ after_inode r)

-- a record is its fields
pub same_record : (r : Record) (generation sender received : ℕ) (fingerprint : List ℕ) (device inode : ℕ)
    → generation ≡ r.generation → sender ≡ r.numbers.sender → received ≡ r.numbers.received → fingerprint ≡ r.owner.fingerprint → device ≡ r.owner.device → inode ≡ r.owner.inode
    → Some (record {
      generation = generation;
      numbers = record { sender = sender; received = received };
      owner = record { fingerprint = fingerprint; device = device; inode = inode };
    }) ≡ Some r
same_record r g s v f d i eg es ev ef ed ei = rw (eg, es, ev, ef, ed, ei) refl
