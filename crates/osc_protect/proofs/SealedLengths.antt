-- How long what is sealed is, by its parts.
use Rattle.std.proofs.Common.{◌≡◌, ℕ, ◌+◌, ◌-◌, ◌<◌, ◌⊎◌, Bool, List, [], ◌∷◌, ◌++◌, length, refl, ap, ◌∙◌, arith, inl, inr}
use Rattle.osc_coap.specs.Datagram.{Parts, datagram_length}
use Rattle.osc_coap.specs.Inner.{inner_length}
use Rattle.osc_coap.specs.OptionSpelling.{Entry, last_number, marked, option_length, spelling_length}
use Rattle.osc_coap.specs.OptionNumbers.{oscore}
use Rattle.osc_context.specs.declared.features.Features.{Features}
use Rattle.osc_protect.specs.Sealed.{inside, options_behind, options_outside, outside, sealed_length}
use Rattle.osc_protect.specs.Split.{Behind, Inside, Outside, options_on, said}
use Rattle.osc_protect.proofs.Sides.{behind_read, inside_length, outside_read}

-- two lists of options, one after the other
pub spelled_append : (d : ℕ) (xs ys : List Entry) → spelling_length d (xs ++ ys) ≡ spelling_length d xs + spelling_length (last_number d xs) ys
spelled_append d [] ys = omega arith
spelled_append d (x ∷ xs) ys = let rest = spelled_append x.0 xs ys in omega (arith, rest)

module _ (x : Features) (notifies : Bool) (p : Parts) (value : List ℕ) where
  -- the sum of the lengths of what stands outside
  pub outside_sum : (os : List Entry) (head outer last delta option rest : ℕ)
      → os ≡ p.options → head ≡ 4 + length p.token
      → outer ≡ spelling_length 0 (options_on (Outside x.observe) os) → last ≡ last_number 0 (options_on (Outside x.observe) os)
      → delta ≡ 9 - last → option ≡ option_length delta (length value) → rest ≡ spelling_length oscore (options_on Behind os)
      → datagram_length (outside x p p.code value []) ≡ head + outer + option + rest
  outside_sum os head outer last delta option rest eo eh eu el ed ek er =
      let all = spelled_append 0 (options_outside x.observe p.options) ((oscore, value) ∷ options_behind p.options) in
      let r : rest ≡ spelling_length oscore (options_behind p.options) = er ∙ ap (spelling_length oscore) (behind_read p os eo) in
      let u : outer ≡ spelling_length 0 (options_outside x.observe p.options) = eu ∙ ap (spelling_length 0) (outside_read x.observe p os eo) in
      let k : option ≡ option_length (9 - last_number 0 (options_outside x.observe p.options)) (length value) =
      ek ∙ ap (λ (d : ℕ). option_length d (length value)) (ed ∙ ap (λ (n : ℕ). 9 - n) (el ∙ ap (last_number 0) (outside_read x.observe p os eo))) in
      sums (length p.token) (spelling_length 0 (options_outside x.observe p.options ++ (oscore, value) ∷ options_behind p.options)) (spelling_length 0 (options_outside x.observe p.options)) (option_length (9 - last_number 0 (options_outside x.observe p.options)) (length value)) (spelling_length oscore (options_behind p.options)) head outer option rest all eh u k r
    where
      sums : (t w a b z head outer option rest : ℕ) → w ≡ a + (b + z) → head ≡ 4 + t → outer ≡ a → option ≡ b → rest ≡ z → 4 + t + w + 0 ≡ head + outer + option + rest
      sums t w a b z head outer option rest h0 h1 h2 h3 h4 = omega arith

  -- the sum of the lengths of what is sealed
  pub sealed_sum : (pay : List ℕ) (os : List Entry) (front inner mark : ℕ)
      → os ≡ p.options → pay ≡ p.payload → datagram_length (outside x p p.code value []) ≡ front
      → inner ≡ spelling_length 0 (options_on (Inside notifies) os) → mark ≡ length (marked pay)
      → sealed_length x (said notifies) p value ≡ front + 1 + (1 + inner + mark) + 8
  sealed_sum pay os front inner mark eo ep ef ei em =
      let long = inside_length notifies p in
      let i : inner ≡ spelling_length 0 (options_on (Inside notifies) p.options) = ei ∙ ap (λ (es : List Entry). spelling_length 0 (options_on (Inside notifies) es)) eo in
      let m : mark ≡ length (marked p.payload) = em ∙ ap (λ (bytes : List ℕ). length (marked bytes)) ep in
      sums (datagram_length (outside x p p.code value [])) (spelling_length 0 (options_on (Inside notifies) p.options)) (length (marked p.payload)) (inner_length (inside (said notifies p))) front inner mark ef long i m
    where
      sums : (d c e l front inner mark : ℕ) → d ≡ front → l ≡ 1 + c + e → inner ≡ c → mark ≡ e → d + (1 + (l + 8)) ≡ front + 1 + (1 + inner + mark) + 8
      sums d c e l front inner mark h0 h1 h2 h3 = omega arith

  -- where a part is longer than a datagram can be, the whole is
  pub sealed_beyond : (os : List Entry) → os ≡ p.options
      → (65535 < spelling_length 0 (options_on (Outside x.observe) os)) ⊎ ((65535 < spelling_length oscore (options_on Behind os)) ⊎ (65535 < spelling_length 0 (options_on (Inside notifies) os))) → 65535 < sealed_length x (said notifies) p value
  sealed_beyond os eo beyond =
      let outer : ℕ = spelling_length 0 (options_on (Outside x.observe) os) in
      let last : ℕ = last_number 0 (options_on (Outside x.observe) os) in
      let option : ℕ = option_length (9 - last) (length value) in
      let rest : ℕ = spelling_length oscore (options_on Behind os) in
      let inner : ℕ = spelling_length 0 (options_on (Inside notifies) os) in
      let front = outside_sum os (4 + length p.token) outer last (9 - last) option rest eo refl refl refl refl refl refl in
      let sum = sealed_sum p.payload os (4 + length p.token + outer + option + rest) inner (length (marked p.payload)) eo refl front refl refl in
      more (sealed_length x (said notifies) p value) (length p.token) outer option rest inner (length (marked p.payload)) sum beyond
    where
      more : (s t a b z c e : ℕ) → s ≡ 4 + t + a + b + z + 1 + (1 + c + e) + 8 → (65535 < a) ⊎ ((65535 < z) ⊎ (65535 < c)) → 65535 < s
      more s t a b z c e h (inl l) = omega arith
      more s t a b z c e h (inr (inl l)) = omega arith
      more s t a b z c e h (inr (inr l)) = omega arith
