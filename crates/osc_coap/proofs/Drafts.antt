-- A draft, and the same with an option or a payload more.
use Rattle.std.proofs.Common.{◌≡◌, ◌≢◌, ℕ, ◌+◌, ◌-◌, ◌<◌, ◌≤◌, List, [], ◌∷◌, ◌++◌, length, refl, sym, ap, subst, ◌∙◌, append_assoc, arith}
use Rattle.std.proofs.lemmas.List.{append-nil}
use Rattle.std.proofs.lemmas.List.Elements.{All-cons}
use Rattle.osc_coap.specs.OptionSpelling.{Entry, AreBytes, Spells, marked, last_number, option_length}
use Rattle.osc_coap.specs.OptionText.{option_text}
use Rattle.osc_coap.specs.Writing.{Draft, Datagram, Plaintext, options_of, payload_of, length_of, with_option, with_payload, IsEmptyMessage}
use Rattle.osc_coap.specs.Drafts.{front_of, HasFineToken, IsDraft}
use Rattle.osc_coap.proofs.Bytes.{bytes_append}
use Rattle.osc_coap.proofs.OptionTexts.{text_is_option, option_text_bytes, spells_push, spelling_length-push}

-- ---- what a draft is with more behind it

-- the options with one more
pub options_more : (draft : Draft) (number : ℕ) (value : List ℕ) → options_of (with_option draft number value) ≡ options_of draft ++ (number, value) ∷ []
options_more (Datagram p) number value = refl
options_more (Plaintext p) number value = refl

-- an option leaves the payload
pub payload_stays : (draft : Draft) (number : ℕ) (value : List ℕ) → payload_of (with_option draft number value) ≡ payload_of draft
payload_stays (Datagram p) number value = refl
payload_stays (Plaintext p) number value = refl

-- an option leaves what stands in front
front_stays : (draft : Draft) (number : ℕ) (value : List ℕ) → front_of (with_option draft number value) ≡ front_of draft
front_stays (Datagram p) number value = refl
front_stays (Plaintext p) number value = refl

-- an option leaves the token
token_stays : (draft : Draft) (number : ℕ) (value : List ℕ) → HasFineToken draft → HasFineToken (with_option draft number value)
token_stays (Datagram p) number value h = h
token_stays (Plaintext p) number value h = tt

-- an option makes no message empty
pub empty_stays : (draft : Draft) (number : ℕ) (value : List ℕ) → IsEmptyMessage (with_option draft number value) → IsEmptyMessage draft
empty_stays (Datagram p) number value h = h
empty_stays (Plaintext p) number value h = h

-- how long a draft is with an option more
pub length_more : (draft : Draft) (number : ℕ) (value : List ℕ) → length_of (with_option draft number value) ≡ length_of draft + option_length (number - last_number 0 (options_of draft)) (length value)
length_more (Datagram p) number value = omega (arith, spelling_length-push 0 p.options number value)
length_more (Plaintext p) number value = omega (arith, spelling_length-push 0 p.options number value)

-- more text behind the options
regrouped : (front spelled more : List ℕ) → (front ++ (spelled ++ [])) ++ more ≡ front ++ ((spelled ++ more) ++ [])
regrouped front spelled more = simp (append_assoc, append-nil)

-- an option behind a draft that has no payload
pub draft_option : (draft : Draft) (number : ℕ) (value bytes : List ℕ) → IsDraft draft bytes → ¬ IsEmptyMessage draft → payload_of draft ≡ [] → last_number 0 (options_of draft) ≤ number → number ≤ 65535 → length value < 65805 → AreBytes value
    → length (bytes ++ option_text (number - last_number 0 (options_of draft)) value) ≤ 65535 → IsDraft (with_option draft number value) (bytes ++ option_text (number - last_number 0 (options_of draft)) value)
draft_option draft number value bytes h filled no_payload le small short are fits =
    let delta : ℕ = number - last_number 0 (options_of draft) in
    let more : List ℕ = option_text delta value in
    let delta_small : delta < 65805 = omega arith in
    let nothing : marked (payload_of draft) ≡ [] = rw no_payload refl in
    let spells = spells_push 0 (options_of draft) number value h.spelled more h.spells le small (text_is_option delta value delta_small short) in
    record {
      are_bytes = bytes_append bytes more h.are_bytes (option_text_bytes delta value delta_small short are);
      fits = fits;
      token = token_stays draft number value h.token;
      spelled = h.spelled ++ more;
      spells = subst (λ (entries : List Entry). Spells 0 entries (h.spelled ++ more)) (sym (options_more draft number value)) spells;
      whole = ap (λ (z : List ℕ). z ++ more) (h.whole ∙ ap (λ (z : List ℕ). front_of draft ++ (h.spelled ++ z)) nothing)
          ∙ regrouped (front_of draft) h.spelled more
          ∙ ap (λ (z : List ℕ). front_of draft ++ ((h.spelled ++ more) ++ z)) (sym nothing)
          ∙ ap (λ (z : List ℕ). front_of draft ++ ((h.spelled ++ more) ++ marked z)) (sym (payload_stays draft number value))
          ∙ ap (λ (z : List ℕ). z ++ ((h.spelled ++ more) ++ marked (payload_of (with_option draft number value)))) (sym (front_stays draft number value));
      empty = λ e. absurd (filled (empty_stays draft number value e));
    }

-- ---- a payload

-- the payload with more bytes
payload_more : (draft : Draft) (bytes : List ℕ) → payload_of (with_payload draft bytes) ≡ payload_of draft ++ bytes
payload_more (Datagram p) bytes = refl
payload_more (Plaintext p) bytes = refl

-- a payload leaves the options
pub options_stay : (draft : Draft) (bytes : List ℕ) → options_of (with_payload draft bytes) ≡ options_of draft
options_stay (Datagram p) bytes = refl
options_stay (Plaintext p) bytes = refl

-- a payload leaves what stands in front
front_remains : (draft : Draft) (bytes : List ℕ) → front_of (with_payload draft bytes) ≡ front_of draft
front_remains (Datagram p) bytes = refl
front_remains (Plaintext p) bytes = refl

-- a payload leaves the token
token_remains : (draft : Draft) (bytes : List ℕ) → HasFineToken draft → HasFineToken (with_payload draft bytes)
token_remains (Datagram p) bytes h = h
token_remains (Plaintext p) bytes h = tt

-- a payload makes no message empty
pub empty_remains : (draft : Draft) (bytes : List ℕ) → IsEmptyMessage (with_payload draft bytes) → IsEmptyMessage draft
empty_remains (Datagram p) bytes h = h
empty_remains (Plaintext p) bytes h = h

-- the payload that a draft without one gets
pub payload_now : (draft : Draft) (bytes : List ℕ) → payload_of draft ≡ [] → payload_of (with_payload draft bytes) ≡ bytes
payload_now draft bytes none = payload_more draft bytes ∙ ap (λ (z : List ℕ). z ++ bytes) none

-- a payload that isn't empty stands behind a marker
marked_is : (bytes : List ℕ) → bytes ≢ [] → marked bytes ≡ 255 ∷ bytes
marked_is [] some = absurd (some refl)
marked_is (x ∷ bytes) some = refl

-- the length of a draft, its payload counted apart
length_parted : (draft : Draft) (bytes : List ℕ) → length_of (with_payload draft bytes) + length (marked (payload_of draft)) ≡ length_of draft + length (marked (payload_of draft ++ bytes))
length_parted (Datagram p) bytes = omega arith
length_parted (Plaintext p) bytes = omega arith

-- how long a draft is with a payload
pub length_marked : (draft : Draft) (bytes : List ℕ) → payload_of draft ≡ [] → bytes ≢ [] → length_of (with_payload draft bytes) ≡ length_of draft + (1 + length bytes)
length_marked draft bytes none some =
    let before : length (marked (payload_of draft)) ≡ 0 = rw none refl in
    let after : length (marked (payload_of draft ++ bytes)) ≡ length (255 ∷ bytes) = ap (λ (z : List ℕ). length (marked (z ++ bytes))) none ∙ ap length (marked_is bytes some) in
    omega (arith, length_parted draft bytes)

-- a marker and a payload behind the options
joined : (front spelled more : List ℕ) → (front ++ (spelled ++ [])) ++ more ≡ front ++ (spelled ++ more)
joined front spelled more = simp (append_assoc, append-nil)

-- a marker and a payload behind a draft that has none
pub draft_payload : (draft : Draft) (payload bytes : List ℕ) → IsDraft draft bytes → ¬ IsEmptyMessage draft → payload_of draft ≡ [] → payload ≢ [] → AreBytes payload → length (bytes ++ (255 ∷ payload)) ≤ 65535 → IsDraft (with_payload draft payload) (bytes ++ (255 ∷ payload))
draft_payload draft payload bytes h filled none some are fits =
    let nothing : marked (payload_of draft) ≡ [] = rw none refl in
    let marked_now : 255 ∷ payload ≡ marked (payload_of (with_payload draft payload)) = sym (marked_is payload some) ∙ ap marked (sym (payload_now draft payload none)) in
    record {
      are_bytes = bytes_append bytes (255 ∷ payload) h.are_bytes (All-cons (λ b. b < 256) 255 payload (omega arith) are);
      fits = fits;
      token = token_remains draft payload h.token;
      spelled = h.spelled;
      spells = subst (λ (entries : List Entry). Spells 0 entries h.spelled) (sym (options_stay draft payload)) h.spells;
      whole = ap (λ (z : List ℕ). z ++ (255 ∷ payload)) (h.whole ∙ ap (λ (z : List ℕ). front_of draft ++ (h.spelled ++ z)) nothing)
          ∙ joined (front_of draft) h.spelled (255 ∷ payload)
          ∙ ap (λ (z : List ℕ). front_of draft ++ (h.spelled ++ z)) marked_now
          ∙ ap (λ (z : List ℕ). z ++ (h.spelled ++ marked (payload_of (with_payload draft payload)))) (sym (front_remains draft payload));
      empty = λ e. absurd (filled (empty_remains draft payload e));
    }
