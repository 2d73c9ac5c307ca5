-- A draft with more options.
use Rattle.std.proofs.Common.{◌≡◌, ℕ, List, [], ◌∷◌, ◌++◌, ap, append_assoc}
use Rattle.osc_coap.specs.OptionSpelling.{Entry}
use Rattle.osc_coap.specs.Writing.{Draft, Datagram, Plaintext, with_options, with_option}

-- one option behind further ones
pub with_options-push : (draft : Draft) (entries : List Entry) (number : ℕ) (value : List ℕ) → with_option (with_options draft entries) number value ≡ with_options draft (entries ++ (number, value) ∷ [])
with_options-push (Datagram p) entries number value = ap (λ (z : List Entry). Datagram (record p { options = z })) (append_assoc p.options entries ((number, value) ∷ []))
with_options-push (Plaintext p) entries number value = ap (λ (z : List Entry). Plaintext (record p { options = z })) (append_assoc p.options entries ((number, value) ∷ []))
