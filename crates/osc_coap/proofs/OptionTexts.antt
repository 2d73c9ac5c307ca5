-- What the code writes for an option is the option, and is as long as the standard says.
use Rattle.std.proofs.Common.{rules, ◌≡◌, ℕ, ◌+◌, ◌-◌, ◌*◌, ◌/◌, ◌%◌, ◌<◌, ◌≤◌, true, false, ltb, List, [], ◌∷◌, ◌++◌, length, refl, sym, ap, ◌∙◌, append_assoc, arith, inl, inr}
use Rattle.std.proofs.lemmas.Bool.{cases_lt, lt-ltb, le-ltb}
use Rattle.std.proofs.lemmas.List.{append-nil, length-append}
use Rattle.std.proofs.lemmas.List.Elements.{All-cons}
use Rattle.osc_coap.specs.OptionSpelling.{Entry, AreBytes, Stands, IsOption, Spells, last_number, extended_length, option_length, spelling_length}
use Rattle.osc_coap.specs.OptionText.{nibble, extended, option_front, option_text}
use Rattle.osc_coap.proofs.Bytes.{bytes_append}

-- what the code makes of a number: what stands for it, its length, its bytes
pub record IsWritten (n : ℕ) : Type 0 where
  pub stands : Stands (nibble n) (extended n) n
  pub long : length (extended n) ≡ extended_length n
  pub nibble_small : nibble n < 15
  pub are_bytes : AreBytes (extended n)

-- no bytes are bytes
none_are : AreBytes []
none_are = search rules

-- each delta and length is written so
pub number_written : (n : ℕ) → n < 65805 → IsWritten n
number_written n small =
    elim (cases_lt n 13) [
      | inl lt ↦ let t : ltb n 13 ≡ true = lt-ltb _ _ lt in
          record { stands = rw t (lt, refl); long = rw t refl; nibble_small = rw t (omega arith); are_bytes = rw t none_are }
      | inr ge ↦ let t : ltb n 13 ≡ false = le-ltb _ _ ge in
          elim (cases_lt n 269) [
            | inl lt ↦ let u : ltb n 269 ≡ true = lt-ltb _ _ lt in
                record { stands = rw (t, u) (refl, omega arith); long = rw (t, u) refl; nibble_small = rw (t, u) (omega arith); are_bytes = rw (t, u) (All-cons (λ b. b < 256) (n - 13) [] (omega arith) none_are) }
            | inr le ↦ let u : ltb n 269 ≡ false = le-ltb _ _ le in
                record { stands = rw (t, u) (refl, omega arith); long = rw (t, u) refl; nibble_small = rw (t, u) (omega arith); are_bytes = rw (t, u) (All-cons (λ b. b < 256) ((n - 269) / 256) ((n - 269) % 256 ∷ []) (omega arith) (All-cons (λ b. b < 256) ((n - 269) % 256) [] (omega arith) none_are)) }
          ]
    ]

-- the text is the option
pub text_is_option : (delta : ℕ) (value : List ℕ) → delta < 65805 → length value < 65805 → IsOption delta value (option_text delta value)
text_is_option delta value d v =
    record {
      delta_nibble = nibble delta;
      length_nibble = nibble (length value);
      delta_bytes = extended delta;
      length_bytes = extended (length value);
      delta_is = (number_written delta d).stands;
      length_is = (number_written (length value) v).stands;
      whole = ap (λ (z : List ℕ). (16 * nibble delta + nibble (length value)) ∷ z) (append_assoc (extended delta) (extended (length value)) value);
    }

-- its length is the standard's
pub length-option_text : (delta : ℕ) (value : List ℕ) → delta < 65805 → length value < 65805 → length (option_text delta value) ≡ option_length delta (length value)
length-option_text delta value d v =
    let first = (number_written delta d).long in
    let second = (number_written (length value) v).long in
    omega (arith, length-append (extended delta ++ extended (length value)) value, length-append (extended delta) (extended (length value)))

-- it holds bytes alone
pub option_text_bytes : (delta : ℕ) (value : List ℕ) → delta < 65805 → length value < 65805 → AreBytes value → AreBytes (option_text delta value)
option_text_bytes delta value d v are =
    let first = number_written delta d in
    let second = number_written (length value) v in
    let high = first.nibble_small in
    let low = second.nibble_small in
    bytes_append (option_front delta (length value)) value (All-cons (λ b. b < 256) _ _ (omega arith) (bytes_append (extended delta) (extended (length value)) first.are_bytes second.are_bytes)) are

-- ---- one option more behind a spelling

-- a spelling with one option more
pub spells_push : (d : ℕ) (entries : List Entry) (number : ℕ) (value text more : List ℕ) → Spells d entries text → last_number d entries ≤ number → number ≤ 65535 → IsOption (number - last_number d entries) value more → Spells d (entries ++ (number, value) ∷ []) (text ++ more)
spells_push d [] number value text more h le small option =
    rw h (le, small, [], (more, option, sym (append-nil more)), refl)
spells_push d (entry ∷ entries) number value text more h le small option =
    let first = h.3 in
    (h.0, h.1, h.2 ++ more, (first.0, first.1, ap (λ (z : List ℕ). z ++ more) first.2 ∙ append_assoc first.0 h.2 more), spells_push entry.0 entries number value h.2 more h.4 le small option)

-- its last number
pub last_number-push : (d : ℕ) (entries : List Entry) (number : ℕ) (value : List ℕ) → last_number d (entries ++ (number, value) ∷ []) ≡ number
last_number-push d [] number value = refl
last_number-push d (entry ∷ entries) number value = last_number-push entry.0 entries number value

-- its length
pub spelling_length-push : (d : ℕ) (entries : List Entry) (number : ℕ) (value : List ℕ) → spelling_length d (entries ++ (number, value) ∷ []) ≡ spelling_length d entries + option_length (number - last_number d entries) (length value)
spelling_length-push d [] number value = omega arith
spelling_length-push d (entry ∷ entries) number value =
    let more = spelling_length-push entry.0 entries number value in
    omega (arith, more)
