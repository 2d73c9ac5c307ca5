-- What is printed of a request that goes through a proxy comes of what the steps answer, with status 0 or 2.
use Rattle.std.proofs.Common.{◌≡◌, ◌⊎◌, ℕ, List, take, refl, ◌∙◌, inl, inr, Result, Ok, Err, IsOk, IfOk, IfErr}
use Rattle.osc_coap.specs.Datagram.{Parts, IsDatagram}
use Rattle.osc_context.specs.SecurityContext.{SecurityContext}
use Rattle.osc_proxy.specs.AskRefusals.{FitsToAsk, RefusesToAsk}
use Rattle.osc_proxy.specs.Asking.{asked}
use Rattle.osc_proxy.specs.declared.ask_error.AskProxyError.{AskProxyError}
use Rattle.osc_text.specs.Forwarding.{AskedText, RoutedText, SplitText}
use Rattle.osc_text.specs.Forwarding.AskedText.{asking, unasked}
use Rattle.osc_text.specs.Forwarding.RoutedText.{splitting, unsplit}
use Rattle.osc_text.specs.Forwarding.SplitText.{sealing, unsealed}
use Rattle.osc_text.specs.Outcomes.{ask_lines, ask_status}
use Rattle.osc_text.specs.Protecting.{most_room}
use Rattle.osc_text.specs.declared.fault.Fault.{Fault}

-- the text of what came of asking
pub text_of_asking : (name sealed buffer : List ℕ) (r : Result ℕ AskProxyError) → (IsOk r → FitsToAsk sealed name most_room)
    → IfOk r (λ n. (p : Parts) → IsDatagram p sealed → IsDatagram (asked name p) (take n buffer)) → IfErr r (RefusesToAsk sealed name most_room)
    → AskedText name sealed (ask_lines buffer r) (ask_status r)
text_of_asking name sealed buffer (Ok n) fits written refuses = let f = fits refl in asking f (take n buffer) (written f.parts f.message) refl refl
text_of_asking name sealed buffer (Err e) fits written refuses = unasked e refuses refl refl

-- its status is 0 or 2
asked_status : {name sealed : List ℕ} {lines : List (List ℕ)} {k : ℕ} → AskedText name sealed lines k → (k ≡ 0) ⊎ (k ≡ 2)
asked_status (asking fits bytes is text status) = inl status
asked_status (unasked e refuses text status) = inr status

split_status : {client : SecurityContext} {i : ℕ} {name : List ℕ} {q : Parts} {lines : List (List ℕ)} {k : ℕ} → SplitText client i name q lines k → (k ≡ 0) ⊎ (k ≡ 2)
split_status (sealing bytes is it) = asked_status it
split_status (unsealed e refuses text status) = inr status

pub routed_status : {client : SecurityContext} {i : ℕ} {d : List ℕ} {lines : List (List ℕ)} {k : ℕ} → RoutedText client i d lines k → (k ≡ 0) ⊎ (k ≡ 2)
routed_status (splitting p u fits it) = split_status it
routed_status (unsplit e refuses text status) = inr status

-- what is answered is 0 or 2, where it is a number that is
pub is_known : (r : Result ℕ Fault) (k : ℕ) → (k ≡ 0) ⊎ (k ≡ 2) → IfOk r (λ s. s ≡ k) → IfOk r (λ s. (s ≡ 0) ⊎ (s ≡ 2))
is_known (Ok s) k (inl zero) is = inl (is ∙ zero)
is_known (Ok s) k (inr two) is = inr (is ∙ two)
is_known (Err e) k either is = tt
