-- What a line spells is what is read of it.
use Rattle.std.proofs.Common.{◌≡◌, ◌≢◌, ℕ, ◌*◌, ◌<◌, ◌^◌, ◌==◌, ◌&&◌, Bool, true, false, List, [], ◌∷◌, ◌++◌, All, length, codes, Option, Some, None, IfSome, option_map, Result, Ok, Err, IfOk, refl, sym, ap, subst, ◌∙◌, arith, inl, inr}
use Rattle.std.specs.Prelude.{not, nat_lt, if◌then◌else◌, unwrap_or, bytes_eq}
use Rattle.std.specs.Int.{from_be_bytes, to_be_bytes, w16}
use Rattle.std.specs.Option.{IfNone, option_and_then}
use Rattle.std.specs.List.{AllPass}
use Rattle.std.proofs.lemmas.List.{length-map}
use Rattle.std.specs.Str.{all_ascii_digits}
use Rattle.std.specs.Char.{is_ascii_digit}
use Rattle.std.proofs.lemmas.Bool.{and_parts, cases_Bool, cond-true, cond-false, ltb-true, ne_eqb}
use Rattle.std.proofs.lemmas.List.Elements.{All-cons, All-head, All-nil, All-tail}
use Rattle.std.proofs.lemmas.Nat.{be_bytes_2, from_be_bytes-to_be_bytes_2}
use Rattle.std.proofs.lemmas.Slice.Eq.{bytes_eq-Decides}
use Rattle.hex.specs.Hex.{IsBytes, decode_of, decode_pairs, decode_sized, encode_lower, encode_with, is_hex_digit}
use Rattle.hex.specs.declared.error.FromHexError.{FromHexError}
use Rattle.hex.proofs.HexLemmas.{decode_of-encode_lower, decode_of-ok, decode_of-same, decode_sized-ok, decode_sized-twice, length-encode_with}
use Rattle.osc_text.specs.Hex.{SpellsBytes, small}
use Rattle.osc_text.specs.InputEvents.{Drop, InputEvent, Notify, Reply, Restart, SaysMessageId, SpellsEvent, Take, own_word}
use Rattle.osc_text.specs.InputReading.{SpellsNone, SpellsSeen, bytes_read, fixed_read, hex_decoded, number_read, numbered_of, numbered_read, split_once}
use Rattle.osc_text.specs.Inputs.{SaysBelow, SaysBytes, parted}
use Rattle.osc_text.specs.ServedReading.{event_read, four_read, message_id_read, own_read, reply_of, reply_read, take_of, take_read, verb_read}
use Rattle.osc_text.specs.Numbers.{number_said}
use Rattle.osc_text.proofs.HexWords.{decodes_spells, spells_decodes}
use Rattle.osc_text.proofs.InputWords.{IsNot, number_is, split_at, split_parts}

-- ---- numbers

all_chosen : (a b c : Bool) (m n : ℕ) → (if a && (b && c) then Some m else None) ≡ Some n → (a ≡ true) × (b ≡ true) × (c ≡ true) × (n ≡ m)
all_chosen true true true m n h = (refl, refl, refl, sym (ap (λ (o : Option ℕ). unwrap_or o 0) h))
all_chosen true true false m n h = cc h
all_chosen true false c m n h = cc h
all_chosen false b c m n h = cc h

pub number_says : (bound : ℕ) (w : List ℕ) (n : ℕ) → number_read bound w ≡ Some n → SaysBelow bound w n
unfolding number_read
number_says bound w n h =
    let t = all_chosen (nat_lt 0 (length w)) (all_ascii_digits w) (nat_lt (number_said w) bound) (number_said w) n h in
    ((ltb-true 0 (length w) t.0, t.1), t.3, subst (λ (m : ℕ). m < bound) (sym t.3) (ltb-true (number_said w) bound t.2))

pub says_number : (bound : ℕ) (w : List ℕ) (n : ℕ) → SaysBelow bound w n → number_read bound w ≡ Some n
says_number bound w n s = sym (number_is bound w (Some n) ((s.0, subst (λ (m : ℕ). m < bound) s.1 s.2), s.1))

-- ---- bytes

decoded_ok : (r : Result (List ℕ) FromHexError) (bytes : List ℕ) → hex_decoded r ≡ Some bytes → r ≡ Ok bytes
decoded_ok (Ok xs) bytes h = ap Ok (ap (λ (o : Option (List ℕ)). unwrap_or o []) h)
decoded_ok (Err e) bytes h = cc h

-- a word that spells bytes decodes to them
spelled_ok : (w bytes : List ℕ) (r : Result (List ℕ) FromHexError) → decode_of w ≡ r → SpellsBytes w bytes → r ≡ Ok bytes
spelled_ok w bytes (Err e) is s = absurd (spells_decodes w bytes e s is)
spelled_ok w bytes (Ok xs) is s =
    let t = decodes_spells w xs is in
    let a : decode_of (encode_lower bytes) ≡ Ok xs = ap decode_of (sym s.1 ∙ t.1) ∙ decode_of-encode_lower xs t.0 in
    ap Ok (decode_of-same (encode_lower bytes) xs bytes a (decode_of-encode_lower bytes s.0))

pub spells_ok : (w bytes : List ℕ) → SpellsBytes w bytes → decode_of w ≡ Ok bytes
spells_ok w bytes s = spelled_ok w bytes (decode_of w) refl s

some_length : (c : ℕ) (w : List ℕ) → (length (c ∷ w) == 0) ≡ false
some_length c w = ne_eqb (length (c ∷ w)) 0 (λ h. omega (arith, h))

pub says_bytes : (w bytes : List ℕ) → SaysBytes w bytes → bytes_read w ≡ Some bytes
unfolding bytes_read decode_pairs
says_bytes w [] s = rw s refl
says_bytes [] (b ∷ bytes) s = let bad : Ok [] ≡ Ok (b ∷ bytes) = spells_ok [] (b ∷ bytes) s in cc bad
says_bytes (c ∷ w) (b ∷ bytes) s =
    let ok = spells_ok (c ∷ w) (b ∷ bytes) s in
    elim (cases_Bool (bytes_eq (c ∷ w) (codes "-"))) [
      | inl dash ↦
          let same = (bytes_eq-Decides (c ∷ w) (codes "-")).0 dash in
          let bad : decode_of (codes "-") ≡ Ok (b ∷ bytes) = ap decode_of (sym same) ∙ ok in
          cc bad
      | inr other ↦ cond-false _ _ _ (some_length c w) ∙ cond-false _ _ _ other ∙ ap hex_decoded ok
    ]

some_say : (c : ℕ) (w bytes : List ℕ) → SpellsBytes (c ∷ w) bytes → SaysBytes (c ∷ w) bytes
unfolding encode_with
some_say c w [] s = let bad = s.1 in cc bad
some_say c w (b ∷ bytes) s = s

pub bytes_say : (w bytes : List ℕ) → bytes_read w ≡ Some bytes → SaysBytes w bytes
unfolding bytes_read
bytes_say [] bytes h = cc h
bytes_say (c ∷ w) bytes h = elim (cases_Bool (bytes_eq (c ∷ w) (codes "-"))) [
  | inl dash ↦
      let none : Some [] ≡ Some bytes = sym (cond-false _ _ _ (some_length c w) ∙ cond-true _ _ _ dash) ∙ h in
      subst (SaysBytes (c ∷ w)) (ap (λ (o : Option (List ℕ)). unwrap_or o []) none) ((bytes_eq-Decides (c ∷ w) (codes "-")).0 dash)
  | inr other ↦
      let some : hex_decoded (decode_of (c ∷ w)) ≡ Some bytes = sym (cond-false _ _ _ (some_length c w) ∙ cond-false _ _ _ other) ∙ h in
      some_say c w bytes (decodes_spells (c ∷ w) bytes (decoded_ok (decode_of (c ∷ w)) bytes some))
]

-- ---- as many bytes as are asked for

spelled_length : (w bytes : List ℕ) → SpellsBytes w bytes → length w ≡ 2 * length bytes
spelled_length w bytes s = sym (length-map w small) ∙ ap (λ (xs : List ℕ). length xs) s.1 ∙ length-encode_with _ bytes

pub says_fixed : (n : ℕ) (w bytes : List ℕ) → length bytes ≡ n → SpellsBytes w bytes → fixed_read n w ≡ Some bytes
unfolding fixed_read
says_fixed n w bytes len s = ap hex_decoded (decode_sized-twice w n (spelled_length w bytes s ∙ ap (λ (k : ℕ). 2 * k) len) ∙ spells_ok w bytes s)

pub fixed_says : (n : ℕ) (w bytes : List ℕ) → fixed_read n w ≡ Some bytes → (length bytes ≡ n) × SpellsBytes w bytes
unfolding fixed_read
fixed_says n w bytes h =
    let ok = decoded_ok (decode_sized w n) bytes h in
    let twice = decode_sized-ok w n bytes ok in
    let s = decodes_spells w bytes (sym (decode_sized-twice w n twice) ∙ ok) in
    let len = spelled_length w bytes s in
    (omega (arith, twice, len), s)

pub says_message_id : (w : List ℕ) (mid : ℕ) → SaysMessageId w mid → message_id_read w ≡ Some mid
says_message_id w mid s = ap (option_map (from_be_bytes w16)) (says_fixed 2 w (to_be_bytes w16 mid) refl s.1) ∙ ap Some (from_be_bytes-to_be_bytes_2 mid s.0)

mapped : (o : Option (List ℕ)) (mid : ℕ) → option_map (from_be_bytes w16) o ≡ Some mid → (bytes : List ℕ) × (o ≡ Some bytes) × (mid ≡ from_be_bytes w16 bytes)
mapped None mid h = cc h
mapped (Some bytes) mid h = (bytes, refl, sym (ap (λ (o : Option ℕ). unwrap_or o 0) h))

two_below : (bytes : List ℕ) → length bytes ≡ 2 → IsBytes bytes → from_be_bytes w16 bytes < 2 ^ 16
two_below [] len all = absurd (omega (arith, len))
two_below (a ∷ []) len all = absurd (omega (arith, len))
two_below (a ∷ b ∷ []) len all = let high : a < 256 = all 0 in let low : b < 256 = all 1 in omega (arith, high, low)
two_below (a ∷ b ∷ c ∷ bytes) len all = absurd (omega (arith, len))

pub message_id_says : (w : List ℕ) (mid : ℕ) → message_id_read w ≡ Some mid → SaysMessageId w mid
message_id_says w mid h =
    let m = mapped (fixed_read 2 w) mid h in
    let f = fixed_says 2 w m.0 m.1 in
    let b : to_be_bytes w16 mid ≡ m.0 = be_bytes_2 m.0 mid f.0 (f.1.0) m.2 in
    (subst (λ (n : ℕ). n < 2 ^ 16) (sym m.2) (two_below m.0 f.0 f.1.0), subst (SpellsBytes w) (sym b) f.1)

-- ---- own or shared

pub says_own : (own : Bool) → own_read (own_word own) ≡ Some own
unfolding own_read
says_own true = refl
says_own false = refl

pub own_says : (w : List ℕ) (own : Bool) → own_read w ≡ Some own → w ≡ own_word own
unfolding own_read
own_says w own h = elim (cases_Bool (bytes_eq w (codes "own"))) [
  | inl is ↦
      let b : Some true ≡ Some own = sym (cond-true _ _ _ is) ∙ h in
      (bytes_eq-Decides w (codes "own")).0 is ∙ ap own_word (ap (λ (o : Option Bool). unwrap_or o true) b)
  | inr other ↦ elim (cases_Bool (bytes_eq w (codes "shared"))) [
    | inl is ↦
        let b : Some false ≡ Some own = sym (cond-false _ _ _ other ∙ cond-true _ _ _ is) ∙ h in
        (bytes_eq-Decides w (codes "shared")).0 is ∙ ap own_word (ap (λ (o : Option Bool). unwrap_or o true) b)
    | inr neither ↦
        let b : None ≡ Some own = sym (cond-false _ _ _ other ∙ cond-false _ _ _ neither) ∙ h in
        cc b
  ]
]

-- ---- no space in a word

no_space_digits : (w : List ℕ) → all_ascii_digits w ≡ true → All (IsNot 32) w
no_space_digits [] h = All-nil (IsNot 32)
no_space_digits (c ∷ w) h =
    let both = and_parts (is_ascii_digit c) (all_ascii_digits w) h in
    let digit = both.0 in
    All-cons (IsNot 32) c w (λ space. let bad : is_ascii_digit 32 ≡ true = subst (λ (d : ℕ). is_ascii_digit d ≡ true) space digit in cc bad) (no_space_digits w both.1)

pub no_space_number : (bound : ℕ) (w : List ℕ) (n : ℕ) → SaysBelow bound w n → All (IsNot 32) w
no_space_number bound w n s = no_space_digits w s.0.1

no_space_pass : (w : List ℕ) → AllPass is_hex_digit w → All (IsNot 32) w
no_space_pass [] h = All-nil (IsNot 32)
no_space_pass (c ∷ w) h =
    let digit : is_hex_digit c ≡ true = All-head (λ (d : ℕ). is_hex_digit d ≡ true) c w h in
    All-cons (IsNot 32) c w (λ space. let bad : is_hex_digit 32 ≡ true = subst (λ (d : ℕ). is_hex_digit d ≡ true) space digit in cc bad) (no_space_pass w (All-tail (λ (d : ℕ). is_hex_digit d ≡ true) c w h))

pub no_space_hex : (w bytes : List ℕ) → SpellsBytes w bytes → All (IsNot 32) w
no_space_hex w bytes s = no_space_pass w (decode_of-ok w bytes (spells_ok w bytes s)).1

-- no character is a space
abbrev has_no_space : List ℕ → Bool
has_no_space [] = true
has_no_space (c ∷ w) = not (c == 32) && has_no_space w

not_eq : (c : ℕ) → not (c == 32) ≡ true → c ≢ 32
not_eq c h is = let bad : not (32 == 32) ≡ true = subst (λ (d : ℕ). not (d == 32) ≡ true) is h in cc bad

pub no_space_test : (w : List ℕ) → has_no_space w ≡ true → All (IsNot 32) w
no_space_test [] h = All-nil (IsNot 32)
no_space_test (c ∷ w) h = let both = and_parts (not (c == 32)) (has_no_space w) h in All-cons (IsNot 32) c w (not_eq c both.0) (no_space_test w both.1)

no_space_own : (own : Bool) → All (IsNot 32) (own_word own)
no_space_own true = no_space_test (codes "own") refl
no_space_own false = no_space_test (codes "shared") refl

-- ---- lines

-- four words are read as they are parted
pub four_split : (a b c d : List ℕ) → All (IsNot 32) a → All (IsNot 32) b → All (IsNot 32) c → four_read (parted (a ∷ b ∷ c ∷ d ∷ [])) ≡ Some (a, b, c, d)
unfolding four_read
four_split a b c d no_a no_b no_c = rw (split_at 32 a (parted (b ∷ c ∷ d ∷ [])) no_a, split_at 32 b (parted (c ∷ d ∷ [])) no_b, split_at 32 c d no_c) refl

-- what a chain that gave a value went through
pub then_some : {A B : Type 0} (f : A → Option B) (o : Option A) (y : B) → option_and_then f o ≡ Some y → (x : A) × (o ≡ Some x) × (f x ≡ Some y)
then_some f None y h = cc h
then_some f (Some x) y h = (x, refl, h)

pub map_some : {A B : Type 0} (f : A → B) (o : Option A) (y : B) → option_map f o ≡ Some y → (x : A) × (o ≡ Some x) × (f x ≡ y)
map_some f None y h = cc h
map_some f (Some x) y h = (x, refl, ap (λ o. unwrap_or o (f x)) h)

-- the four words of some fields
abbrev pub Four : Type 0
Four = List ℕ × List ℕ × List ℕ × List ℕ

pub four_parted : (fields : List ℕ) (w : Four) → four_read fields ≡ Some w → fields ≡ parted (w.0 ∷ w.1 ∷ w.2 ∷ w.3 ∷ [])
unfolding four_read
four_parted fields w h =
    let p = then_some _ (split_once 32 fields) w h in
    let q = then_some _ (split_once 32 p.0.1) w p.2 in
    let r = map_some _ (split_once 32 q.0.1) w q.2 in
    let a = split_parts 32 fields p.0 p.1 in
    let b = split_parts 32 p.0.1 q.0 q.1 in
    let c = split_parts 32 q.0.1 r.0 r.1 in
    subst (λ (x : Four). fields ≡ parted (x.0 ∷ x.1 ∷ x.2 ∷ x.3 ∷ [])) r.2 (a.0 ∙ ap (λ (t : List ℕ). p.0.0 ++ 32 ∷ t) (b.0 ∙ ap (λ (t : List ℕ). q.0.0 ++ 32 ∷ t) c.0))

-- ---- a number and bytes

numbered_both : (a : Option ℕ) (b : Option (List ℕ)) (t : ℕ × List ℕ) → numbered_of a b ≡ Some t → (a ≡ Some t.0) × (b ≡ Some t.1)
numbered_both (Some n) (Some bytes) t h =
    let same : (n, bytes) ≡ t = ap (λ (o : Option (ℕ × List ℕ)). unwrap_or o (n, bytes)) h in
    (ap (λ (u : ℕ × List ℕ). Some u.0) same, ap (λ (u : ℕ × List ℕ). Some u.1) same)
numbered_both (Some n) None t h = cc h
numbered_both None b t h = cc h

-- the fields say a number and bytes
abbrev SaysNumbered : List ℕ → ℕ × List ℕ → Type 0
SaysNumbered fields t = (n b : List ℕ) × (fields ≡ parted (n ∷ b ∷ [])) × SaysBelow (2 ^ 64) n t.0 × SaysBytes b t.1

pub numbered_says : (fields : List ℕ) (t : ℕ × List ℕ) → numbered_read fields ≡ Some t → SaysNumbered fields t
unfolding numbered_read
numbered_says fields t h =
    let p = then_some _ (split_once 32 fields) t h in
    let both = numbered_both _ _ t p.2 in
    (p.0.0, p.0.1, (split_parts 32 fields p.0 p.1).0, number_says (2 ^ 64) p.0.0 t.0 both.0, bytes_say p.0.1 t.1 both.1)

pub says_numbered : (n b : List ℕ) (m : ℕ) (bytes : List ℕ) → SaysBelow (2 ^ 64) n m → SaysBytes b bytes → numbered_read (parted (n ∷ b ∷ [])) ≡ Some (m, bytes)
unfolding numbered_read
says_numbered n b m bytes says_n says_b = rw (split_at 32 n b (no_space_number _ n m says_n), says_number (2 ^ 64) n m says_n, says_bytes b bytes says_b) refl

-- ---- what is read is spelled

take_all : (a : Option ℕ) (b : Option (List ℕ)) (c : Option ℕ) (d : Option (List ℕ)) (e : InputEvent ℕ) → take_of a b c d ≡ Some e
    → (now : ℕ) × (echo : List ℕ) × (mid : ℕ) × (datagram : List ℕ) × (a ≡ Some now) × (b ≡ Some echo) × (c ≡ Some mid) × (d ≡ Some datagram) × (Take now echo mid datagram ≡ e)
take_all (Some now) (Some echo) (Some mid) (Some datagram) e h = (now, echo, mid, datagram, refl, refl, refl, refl, ap (λ (o : Option (InputEvent ℕ)). unwrap_or o e) h)
take_all a b c d e h = cc h

reply_all : (a : Option ℕ) (b : Option Bool) (c : Option ℕ) (d : Option (List ℕ)) (e : InputEvent ℕ) → reply_of a b c d ≡ Some e
    → (of : ℕ) × (own : Bool) × (mid : ℕ) × (plain : List ℕ) × (a ≡ Some of) × (b ≡ Some own) × (c ≡ Some mid) × (d ≡ Some plain) × (Reply of own mid plain ≡ e)
reply_all (Some of) (Some own) (Some mid) (Some text) e h = (of, own, mid, text, refl, refl, refl, refl, ap (λ (o : Option (InputEvent ℕ)). unwrap_or o e) h)
reply_all a b c d e h = cc h

take_says : (fields : List ℕ) (e : InputEvent ℕ) → take_read fields ≡ Some e → SpellsEvent (codes "take" ++ 32 ∷ fields) e
unfolding take_read
take_says fields e h =
    let p = then_some _ (four_read fields) e h in
    let w = p.0 in
    let t = take_all _ _ _ _ e p.2 in
    let f = fixed_says 8 w.1 t.1 t.5 in
    subst (SpellsEvent (codes "take" ++ 32 ∷ fields)) t.8
    (w.0, w.1, w.2, w.3, ap (λ (r : List ℕ). codes "take" ++ 32 ∷ r) (four_parted fields w p.1), number_says (2 ^ 64) w.0 t.0 t.4, f, message_id_says w.2 t.2 t.6, bytes_say w.3 t.3 t.7)

reply_says : (fields : List ℕ) (e : InputEvent ℕ) → reply_read fields ≡ Some e → SpellsEvent (codes "reply" ++ 32 ∷ fields) e
unfolding reply_read
reply_says fields e h =
    let p = then_some _ (four_read fields) e h in
    let w = p.0 in
    let t = reply_all _ _ _ _ e p.2 in
    let words : fields ≡ parted (w.0 ∷ own_word t.1 ∷ w.2 ∷ w.3 ∷ []) = four_parted fields w p.1 ∙ ap (λ (own : List ℕ). parted (w.0 ∷ own ∷ w.2 ∷ w.3 ∷ [])) (own_says w.1 t.1 t.5) in
    subst (SpellsEvent (codes "reply" ++ 32 ∷ fields)) t.8
    (w.0, w.2, w.3, ap (λ (r : List ℕ). codes "reply" ++ 32 ∷ r) words, number_says (2 ^ 64) w.0 t.0 t.4, message_id_says w.2 t.2 t.6, bytes_say w.3 t.3 t.7)

-- rows with a number alone, and with a number and bytes
pub number_row : {E : Type 0} (P : List ℕ → E → Type 0) (word fields : List ℕ) (bound : ℕ) (make : ℕ → E) → ((n : ℕ) → SaysBelow bound fields n → P (word ++ 32 ∷ fields) (make n))
    → (e : E) → option_map make (number_read bound fields) ≡ Some e → P (word ++ 32 ∷ fields) e
number_row P word fields bound make there e h =
    let p = map_some make (number_read bound fields) e h in
    subst (P (word ++ 32 ∷ fields)) p.2 (there p.0 (number_says bound fields p.0 p.1))

pub numbered_row : {E : Type 0} (P : List ℕ → E → Type 0) (word fields : List ℕ) (make : ℕ × List ℕ → E) → ((t : ℕ × List ℕ) → SaysNumbered fields t → P (word ++ 32 ∷ fields) (make t))
    → (e : E) → option_map make (numbered_read fields) ≡ Some e → P (word ++ 32 ∷ fields) e
numbered_row P word fields make there e h =
    let p = map_some make (numbered_read fields) e h in
    subst (P (word ++ 32 ∷ fields)) p.2 (there p.0 (numbered_says fields p.0 p.1))

-- a number and bytes behind a word
pub behind : (word fields : List ℕ) (t : ℕ × List ℕ) → SaysNumbered fields t → (n b : List ℕ) × (word ++ 32 ∷ fields ≡ word ++ 32 ∷ parted (n ∷ b ∷ [])) × SaysBelow (2 ^ 64) n t.0 × SaysBytes b t.1
behind word fields t (n, b, is, says_n, says_b) = (n, b, ap (λ (r : List ℕ). word ++ 32 ∷ r) is, says_n, says_b)

-- one verb that a line may have, and the other verbs
pub or_verb : {E : Type 0} (P : List ℕ → E → Type 0) (verb word fields : List ℕ) (a b : Option E) (e : E) → (a ≡ Some e → P (word ++ 32 ∷ fields) e) → (b ≡ Some e → P (verb ++ 32 ∷ fields) e)
    → (if bytes_eq verb word then a else b) ≡ Some e → P (verb ++ 32 ∷ fields) e
or_verb P verb word fields a b e here there h = elim (cases_Bool (bytes_eq verb word)) [
  | inl is ↦ subst (λ (v : List ℕ). P (v ++ 32 ∷ fields) e) (sym ((bytes_eq-Decides verb word).0 is)) (here (sym (cond-true _ _ _ is) ∙ h))
  | inr other ↦ there (sym (cond-false _ _ _ other) ∙ h)
]

verb_says : (verb fields : List ℕ) (e : InputEvent ℕ) → verb_read verb fields ≡ Some e → SpellsEvent (verb ++ 32 ∷ fields) e
unfolding verb_read
verb_says verb fields e h =
    or_verb SpellsEvent verb (codes "take") fields _ _ e (take_says fields e)
    (or_verb SpellsEvent verb (codes "reply") fields _ _ e (reply_says fields e)
    (or_verb SpellsEvent verb (codes "notify") fields _ _ e (numbered_row SpellsEvent (codes "notify") fields (λ t. Notify t.0 t.1) (behind (codes "notify") fields) e)
    (or_verb SpellsEvent verb (codes "drop") fields _ _ e (number_row SpellsEvent (codes "drop") fields (2 ^ 64) Drop (λ n s. (fields, refl, s)) e)
    (or_verb SpellsEvent verb (codes "restart") fields _ _ e (number_row SpellsEvent (codes "restart") fields (2 ^ 40) Restart (λ n s. (fields, refl, s)) e) (λ bad. cc bad))))) h

pub event_says : (line : List ℕ) (e : InputEvent ℕ) → event_read line ≡ Some e → SpellsEvent line e
unfolding event_read
event_says line e h =
    let p = then_some _ (split_once 32 line) e h in
    subst (λ (t : List ℕ). SpellsEvent t e) (sym (split_parts 32 line p.0 p.1).0) (verb_says p.0.0 p.0.1 e p.2)

-- ---- what is spelled is read

pub says_event : (line : List ℕ) (e : InputEvent ℕ) → SpellsEvent line e → event_read line ≡ Some e
unfolding event_read verb_read take_read reply_read
says_event line (Take now echo mid datagram) (n, x, m, d, is, says_n, says_x, says_m, says_d) =
    rw (
      is,
      split_at 32 (codes "take") (parted (n ∷ x ∷ m ∷ d ∷ [])) (no_space_test (codes "take") refl),
      four_split n x m d (no_space_number _ n now says_n) (no_space_hex x echo says_x.1) (no_space_hex m _ says_m.1),
      says_number (2 ^ 64) n now says_n,
      says_fixed 8 x echo says_x.0 says_x.1,
      says_message_id m mid says_m,
      says_bytes d datagram says_d,
    ) refl
says_event line (Reply of own mid text) (n, m, d, is, says_n, says_m, says_d) =
    rw (
      is,
      split_at 32 (codes "reply") (parted (n ∷ own_word own ∷ m ∷ d ∷ [])) (no_space_test (codes "reply") refl),
      four_split n (own_word own) m d (no_space_number _ n of says_n) (no_space_own own) (no_space_hex m _ says_m.1),
      says_number (2 ^ 64) n of says_n,
      says_own own,
      says_message_id m mid says_m,
      says_bytes d text says_d,
    ) refl
says_event line (Notify of text) (n, d, is, says_n, says_d) =
    rw (is, split_at 32 (codes "notify") (parted (n ∷ d ∷ [])) (no_space_test (codes "notify") refl), says_numbered n d of text says_n says_d) refl
says_event line (Drop of) (n, is, says_n) = rw (is, split_at 32 (codes "drop") n (no_space_test (codes "drop") refl), says_number (2 ^ 64) n of says_n) refl
says_event line (Restart next) (n, is, says_n) =
    rw (is, split_at 32 (codes "restart") n (no_space_test (codes "restart") refl), says_number (2 ^ 40) n next says_n) refl

-- a line is read by the words around its first space
pub event_at : (line : List ℕ) (o : Option (List ℕ × List ℕ)) → o ≡ split_once 32 line → event_read line ≡ option_and_then (λ p. verb_read p.0 p.1) o
unfolding event_read
event_at line o h = rw h refl

-- ---- a reader that is the inverse

-- what is read is spelled, and what is spelled is read
pub record IsInverse {E : Type 0} (spells : List ℕ → E → Type 0) (read : List ℕ → Option E) : Type 0 where
  pub says : (line : List ℕ) (e : E) → read line ≡ Some e → spells line e
  pub said : (line : List ℕ) (e : E) → spells line e → read line ≡ Some e

pub server_inverse : IsInverse SpellsEvent event_read
server_inverse = record { says = event_says; said = says_event }

module _ {E : Type 0} (spells : List ℕ → E → Type 0) (read : List ℕ → Option E) (law : IsInverse spells read) where
  -- so a line spells one event at most
  pub one_spelling : (line : List ℕ) (x y : E) → spells line x → spells line y → x ≡ y
  one_spelling line x y a b =
      let same : Some x ≡ Some y = sym (law.said line x a) ∙ law.said line y b in
      ap (λ (o : Option E). unwrap_or o x) same

  -- what the code read, and is right
  pub read_spells : {V F : Type 0} (seen : V → E) (IsRight : V → Type 0) (line : List ℕ) (r : Result (Option V) F) → IfOk r (λ o. option_map seen o ≡ read line) → IfOk r (λ o. IfSome o IsRight)
      → IfOk r (λ o. IfSome o (SpellsSeen spells seen IsRight line))
  read_spells seen IsRight line (Ok (Some v)) is right = (law.says line (seen v) (sym is), right)
  read_spells seen IsRight line (Ok None) is right = tt
  read_spells seen IsRight line (Err e) is right = tt

  -- where the code read nothing, nothing is spelled
  pub none_spells : {V F : Type 0} (seen : V → E) (line : List ℕ) (r : Result (Option V) F) → IfOk r (λ o. option_map seen o ≡ read line) → IfOk r (λ o. IfNone o (SpellsNone spells line))
  none_spells seen line (Ok (Some v)) is = tt
  none_spells seen line (Ok None) is = λ e s. let bad : None ≡ Some e = is ∙ law.said line e s in cc bad
  none_spells seen line (Err e) is = tt

  -- a line of which nothing is read spells nothing
  pub no_words : (line : List ℕ) → read line ≡ None → SpellsNone spells line
  no_words line none e s = let bad : None ≡ Some e = sym none ∙ law.said line e s in cc bad

  -- what the code read of the words around the first space
  pub words_spell : {V F : Type 0} (seen : V → E) (IsRight : V → Type 0) (line : List ℕ) (o : Option E) (r : Result (Option V) F) → read line ≡ o → IfOk r (λ v. option_map seen v ≡ o) → IfOk r (λ v. IfSome v IsRight)
      → IfOk r (λ v. IfSome v (SpellsSeen spells seen IsRight line)) × IfOk r (λ v. IfNone v (SpellsNone spells line))
  words_spell seen IsRight line o r at is right =
      let there = subst (λ (p : Option E). IfOk r (λ v. option_map seen v ≡ p)) (sym at) is in
      (read_spells seen IsRight line r there right, none_spells seen line r there)
