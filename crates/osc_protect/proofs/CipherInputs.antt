-- What a cipher's input is of.
use Rattle.std.proofs.Common.{◌≡◌, ◌≢◌, ◌<◌, ◌^◌, ℕ, List, refl, sym, ap, subst, ◌∙◌, Option, Some, None, IfSome}
use Rattle.osc_coap.specs.Inner.{InnerParts, IsInner}
use Rattle.osc_coap.specs.Laws.{PlaintextIsOneMessage}
use Rattle.osc_ccm.specs.Laws.{OnePlaintext}
use Rattle.osc_context.specs.SecurityContext.{SecurityContext, IsUsable}
use Rattle.osc_context.specs.Laws.{OneAdditionalData, OneNonce}
use Rattle.osc_protect.specs.Protection.{request_cipher, response_cipher, response_nonce}
use Rattle.osc_protect.specs.CipherLaws.{CipherInput, OneRequestInput, OneResponseInput, ccm_of, request_seal, response_seal}

-- one payload under one input protects one message
one_message : OnePlaintext → PlaintextIsOneMessage → (a b : CipherInput) (v w : List ℕ) (m l : InnerParts)
    → a ≡ b → ccm_of a v ≡ ccm_of b w → IsInner m v → IsInner l w → m ≡ l
one_message plaintext inner a b v w m l same e x y =
    let under : ccm_of a v ≡ ccm_of a w = e ∙ ap (λ (c : CipherInput). ccm_of c w) (sym same) in
    let bytes : v ≡ w = plaintext a.key a.nonce a.additional_data v w under in
    inner m l w (subst (λ (z : List ℕ). IsInner m z) bytes x) y

request_by_input : (s : SecurityContext) (n : ℕ) (v : List ℕ) → request_cipher s n v ≡ ccm_of (request_seal s n) v
unfolding request_cipher
request_by_input s n v = refl

response_by_input : (s : SecurityContext) (n : ℕ) (own : Option ℕ) (v : List ℕ) → response_cipher s n own v ≡ ccm_of (response_seal s n own) v
unfolding response_cipher
response_by_input s n own v = refl

pub request_inputs : OnePlaintext → PlaintextIsOneMessage → OneAdditionalData → OneRequestInput
request_inputs plaintext inner additional = record {
  cipher = request_by_input;
  number = λ s n k usable h g e. (additional s.client s.client n k usable.client_fits usable.client_fits h g (ap (λ (c : CipherInput). c.additional_data) e)).1;
  message = λ s t n k m l d e x y same payload.
      one_message plaintext inner (request_seal s n) (request_seal t k) x.plaintext y.plaintext m l same
      (sym (request_by_input s n x.plaintext) ∙ sym x.sealed ∙ payload ∙ y.sealed ∙ request_by_input t k y.plaintext) x.spells y.spells;
}

module _ (nonce : OneNonce) (s : SecurityContext) (usable : IsUsable s) where
  -- no Partial IV of its own makes the nonce of a request
  own_differs : (n j k : ℕ) → j < 2 ^ 40 → k < 2 ^ 40 → response_nonce s.common_iv s.client s.server n (Some k) ≢ response_nonce s.common_iv s.client s.server j None
  own_differs n j k h g e = usable.differ (sym (nonce s.common_iv s.server s.client k j usable.server_fits usable.client_fits g h e).0)

  -- a response's nonce is of one Partial IV or none
  own_number : (n k : ℕ) (own other : Option ℕ) → n < 2 ^ 40 → k < 2 ^ 40 → IfSome own (λ i. i < 2 ^ 40) → IfSome other (λ i. i < 2 ^ 40)
      → response_nonce s.common_iv s.client s.server n own ≡ response_nonce s.common_iv s.client s.server k other → own ≡ other
  own_number n k None None h g a b e = refl
  own_number n k None (Some j) h g a b e = absurd (own_differs k n j h b (sym e))
  own_number n k (Some i) None h g a b e = absurd (own_differs n k i g a e)
  own_number n k (Some i) (Some j) h g a b e = ap Some (nonce s.common_iv s.server s.server i j usable.server_fits usable.server_fits a b e).1

pub response_inputs : OnePlaintext → PlaintextIsOneMessage → OneNonce → OneAdditionalData → OneResponseInput
response_inputs plaintext inner nonce additional = record {
  cipher = response_by_input;
  numbers = λ s n k own other usable h g a b e. (
    (additional s.client s.client n k usable.client_fits usable.client_fits h g (ap (λ (c : CipherInput). c.additional_data) e)).1,
    own_number nonce s usable n k own other h g a b (ap (λ (c : CipherInput). c.nonce) e),
  );
  nonces_differ = λ s n j i usable. own_differs nonce s usable n j i;
  message = λ s t a b n k own other m l d e x y same payload.
      one_message plaintext inner (response_seal s n own) (response_seal t k other) x.plaintext y.plaintext m l same
      (sym (response_by_input s n own x.plaintext) ∙ sym x.sealed ∙ payload ∙ y.sealed ∙ response_by_input t k other y.plaintext) x.spells y.spells;
}
