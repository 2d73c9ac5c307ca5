-- The words that decode are those that spell bytes.
use Rattle.std.proofs.Common.{◌≡◌, ℕ, zero, suc, ◌+◌, ◌*◌, ◌/◌, ◌%◌, ◌<◌, ◌≤◌, ◌==◌, ◌&&◌, Bool, false, true, List, [], ◌∷◌, map, length, Option, Some, None, Result, Ok, Err, refl, sym, ap, ◌∙◌, arith, inl, inr, slice_index}
use Rattle.std.specs.Prelude.{not, nat_lt, if◌then◌else◌}
use Rattle.std.specs.List.{AllPass}
use Rattle.std.specs.Result.{result_unwrap_or}
use Rattle.std.proofs.lemmas.Bool.{and_parts, cases_lt, eqb-true}
use Rattle.std.proofs.lemmas.List.{length-map}
use Rattle.std.proofs.lemmas.List.Elements.{All-cons, All-head, All-nil, All-tail}
use Rattle.hex.specs.Hex.{decode_of, decode_pairs, digit_or_error, encode_lower, encode_with, hex_digit_value, is_hex_digit, lower_digits, pair_value, value_at, ◌>>=◌}
use Rattle.hex.specs.declared.error.FromHexError.{FromHexError}
use Rattle.hex.proofs.HexLemmas.{decode_of-digits, decode_of-encode_lower, decode_of-err, decode_of-even, decode_of-ok}
use Rattle.std.specs.List.{position, position_or_len}
use Rattle.std.proofs.lemmas.List.Sums.{fails_before_first}
use Rattle.osc_text.specs.Hex.{small, SpellsBytes}
use Rattle.osc_text.specs.HexFaults.{is_no_digit}

-- ---- digits

-- the small digit of a value
abbrev small_digit : ℕ → ℕ
small_digit v = if nat_lt v 10 then v + 48 else v + 87

-- the test of the first n places of the table
abbrev all_placed : ℕ → Bool
all_placed zero = true
all_placed (suc n) = (slice_index lower_digits n == small_digit n) && all_placed n

-- a place below n that passed the test
placed : (n k : ℕ) → all_placed n ≡ true → k < n → slice_index lower_digits k ≡ small_digit k
placed zero k h lt = absurd (omega arith)
placed (suc n) k h lt =
    let parts = and_parts (slice_index lower_digits n == small_digit n) (all_placed n) h in
    elim (cases_lt k n) [
      | inl below ↦ placed n k parts.1 below
      | inr top ↦
          let e : k ≡ n = omega arith in
          rw e (eqb-true _ _ parts.0)
    ]

-- the value of a digit is below 16
value_below : (c v : ℕ) → hex_digit_value c ≡ Some v → v < 16
value_below c v h = grind (arith)

-- a digit in either case is the small digit of its value
small_is : (c v : ℕ) → hex_digit_value c ≡ Some v → small c ≡ small_digit v
small_is c v h = grind (arith)

-- a digit in either case is the place of its value
digit_at : (c v : ℕ) → hex_digit_value c ≡ Some v → small c ≡ slice_index lower_digits v
digit_at c v h = small_is c v h ∙ sym (placed 16 v refl (value_below c v h))

-- what is a digit as a small letter is a digit
digit_of_small : (c : ℕ) → is_hex_digit (small c) ≡ true → is_hex_digit c ≡ true
digit_of_small c h = grind (arith)

-- ---- words

-- what an Ok after a step shows
bind_ok : {A B : Type 0} (r : Result A FromHexError) (f : A → Result B FromHexError) (y : B) → (r >>= f) ≡ Ok y → (x : A) × (r ≡ Ok x) × (f x ≡ Ok y)
bind_ok (Ok x) f y h = (x, refl, h)
bind_ok (Err e) f y h = cc h

-- the value of a digit that read
digit_read : (c i : ℕ) (o : Option ℕ) (v : ℕ) → digit_or_error c i o ≡ Ok v → o ≡ Some v
digit_read c i (Some w) v h = ap Some (ap (λ (r : Result ℕ FromHexError). result_unwrap_or r 0) h)
digit_read c i None v h = cc h

-- pairs that decode are the hex of their bytes
pairs_spell : (i : ℕ) (s bytes : List ℕ) → decode_pairs i s ≡ Ok bytes → map small s ≡ encode_lower bytes
unfolding decode_pairs encode_with
pairs_spell i [] bytes h =
    let e : [] ≡ bytes = ap (λ (r : Result (List ℕ) FromHexError). result_unwrap_or r []) h in
    rw (← e) refl
pairs_spell i (a ∷ []) bytes h = cc h
pairs_spell i (a ∷ b ∷ rest) bytes h =
    let p0 = bind_ok (pair_value a b i) _ bytes h in
    let p1 = bind_ok (value_at a i) _ p0.0 p0.1 in
    let p2 = bind_ok (value_at b (i + 1)) _ p0.0 p1.2 in
    let p3 = bind_ok (decode_pairs (i + 2) rest) _ bytes p0.2 in
    let e : p0.0 ∷ p3.0 ≡ bytes = ap (λ (r : Result (List ℕ) FromHexError). result_unwrap_or r []) p3.2 in
    let read_a = digit_read a i (hex_digit_value a) p1.0 p1.1 in
    let read_b = digit_read b (i + 1) (hex_digit_value b) p2.0 p2.1 in
    let below_a = value_below a p1.0 read_a in
    let below_b = value_below b p2.0 read_b in
    let byte : p1.0 * 16 + p2.0 ≡ p0.0 = ap (λ (r : Result ℕ FromHexError). result_unwrap_or r 0) p2.2 in
    let high : p0.0 / 16 ≡ p1.0 = omega arith in
    let low : p0.0 % 16 ≡ p2.0 = omega arith in
    rw (← e, high, low, digit_at a p1.0 read_a, digit_at b p2.0 read_b, pairs_spell (i + 2) rest p3.0 p3.1) refl

-- a word that decodes spells its bytes
pub decodes_spells : (word bytes : List ℕ) → decode_of word ≡ Ok bytes → SpellsBytes word bytes
decodes_spells word bytes h =
    let ok = decode_of-ok word bytes h in
    (ok.3, pairs_spell 0 word bytes (sym (decode_of-even word ok.0) ∙ h))

-- the character is a hex digit
abbrev digit_holds : ℕ → Type 0
digit_holds c = is_hex_digit c ≡ true

-- a word whose small letters are digits has digits alone
digits_of_small : (s : List ℕ) → AllPass is_hex_digit (map small s) → AllPass is_hex_digit s
digits_of_small [] h = All-nil digit_holds
digits_of_small (c ∷ s) h = All-cons digit_holds c s (digit_of_small c (All-head digit_holds (small c) (map small s) h)) (digits_of_small s (All-tail digit_holds (small c) (map small s) h))

-- a word that spells bytes decodes
pub spells_decodes : (word bytes : List ℕ) (e : FromHexError) → SpellsBytes word bytes → decode_of word ≡ Err e → ⊥
spells_decodes word bytes e h refused =
    let text = encode_lower bytes in
    let ok = decode_of-ok text bytes (decode_of-encode_lower bytes h.0) in
    let len : length (map small word) ≡ length word = length-map word small in
    let same : length (map small word) ≡ length text = ap (λ (t : List ℕ). length t) h.1 in
    let twice = ok.0 in
    let even : length word % 2 ≡ 0 = rw (← len, same) twice in
    let all : AllPass is_hex_digit (map small word) = rw h.1 ok.1 in
    let read = decode_of-digits word even (digits_of_small word all) in
    let bad : Ok read.0 ≡ Err e = sym read.1 ∙ refused in
    cc bad

-- a word of digits alone that doesn't decode has an odd number of them
pub odd_digits : (word : List ℕ) (e : FromHexError) → decode_of word ≡ Err e → position is_no_digit word ≡ None → length word % 2 ≡ 1
odd_digits word e refused none = elim (decode_of-err word e refused) [
  | inl odd ↦ odd.0
  | inr bad ↦
      let all : length word ≤ position_or_len is_no_digit word = grind (arith) in
      let digit : is_no_digit (slice_index word bad.0) ≡ false = fails_before_first is_no_digit word bad.0 0 (omega arith) in
      cc (digit, ap not bad.3)
]
