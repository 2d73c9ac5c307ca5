-- What is said of a sealing, of the same context, numbers and message by other words.
use Rattle.std.proofs.Common.{◌≡◌, ◌∙◌, ℕ, Bool, false, Result, Ok, Err, ap, subst}
use Rattle.osc_coap.specs.Datagram.{Parts}
use Rattle.osc_context.specs.SecurityContext.{SecurityContext}
use Rattle.osc_protect.specs.Protection.{Protection, responses, responses_to}
use Rattle.osc_protect.specs.Views.{registers, request_number}
use Rattle.osc_protect.specs.declared.request_ref.RequestRef.{RequestRef}

-- what is said goes along with what it speaks of
pub moved : {I : Type 0} (Says : Protection I → I → Parts → Type 0) {f g : Protection I} {i j : I} {p q : Parts} → f ≡ g → i ≡ j → p ≡ q → Says f i p → Says g j q
moved {I} Says {f} {g} {i} {j} {p} {q} same by alike said =
    subst (λ (h : Protection I). Says h j q) same (subst (λ (k : I). Says f k q) by (subst (λ (r : Parts). Says f i r) alike said))

-- responses to a request that registers nothing are protected by its number
pub plainly : (s t : SecurityContext) (r : RequestRef) (n : ℕ) → s ≡ t → registers r ≡ false → request_number r ≡ n
    → responses_to s (registers r) (request_number r) ≡ responses t n
plainly s t r n same plain number =
    ap (λ (x : SecurityContext). responses_to x (registers r) (request_number r)) same
    ∙ ap (λ (b : Bool). responses_to t b (request_number r)) plain
    ∙ ap (λ (k : ℕ). responses t k) number

-- the error of an answer, or another where there is none
error_or : {T E : Type 0} → E → Result T E → E
error_or other (Ok x) = other
error_or other (Err e) = e

-- two answers that are the same refuse by the same error
pub same_error : {T E : Type 0} {a b : E} → ◌≡◌ {A = Result T E} (Err a) (Err b) → a ≡ b
unfolding error_or
same_error {T} {E} {a} {b} same = ap (error_or a) same
