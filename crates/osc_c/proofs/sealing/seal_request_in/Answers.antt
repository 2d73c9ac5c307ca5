use Rattle.std.proofs.Common.{◌∙◌, sym, ℕ, ap, refl, subst, length}
use Rattle.osc_coap.specs.Datagram.{Parts}
use Rattle.osc_coap.specs.Views.{parts_of}
use Rattle.osc_context.specs.SecurityContext.{SecurityContext}
use Rattle.osc_protect.proofs.Splits.{not_err}
use Rattle.osc_protect.specs.Protection.{Protection, requests}
use Rattle.osc_protect.specs.SealRefusals.{FitsToSeal, RefusesToSeal}
use Rattle.osc_context_handle.specs.ContextBytes.{client_in}
use Rattle.osc_c.specs.Calls.RefusesSealing.{bad_handle, bad_number, malformed, refused}
use Rattle.osc_status.specs.Statuses.{format_status, seal_detail, seal_status}
use Rattle.osc_status.specs.declared.refusal.Refusal.{Refusal}
use Rattle.osc_c.proofs.Moved.{moved, same_error}
use Rattle.osc_c.proofs.sealing.seal_request_in.Goals as goal

pub returns-in-Err-clause-refused : goal.returns-in-Err-clause-refused
returns-in-Err-clause-refused c =
    malformed (c.in-Some.ensures.accepted refl) (c.in-Some-new.ensures.accepted refl) c.in-Err.error.fault c.in-Err.error.place c.in-Err.ensures.refused
    (ap (λ (r : Refusal). r.status) c.into-in-Err.ensures)
    (ap (λ (r : Refusal). r.detail) c.into-in-Err.ensures)

pub returns-in-Err-seal_request-clause-refused : goal.returns-in-Err-seal_request-clause-refused
returns-in-Err-seal_request-clause-refused c =
    let plain = parts_of c.in-Ok.message in
    let error = c.in-Err-seal_request.error in
    let said = subst (λ (s : SecurityContext). RefusesToSeal (requests s) c.in-Some-new.number.number plain (length c.args.out.now) error) c.in-Some.ensures.client c.in-Err-seal_request.ensures.refused in
    refused (c.in-Some.ensures.accepted refl) (c.in-Some-new.ensures.accepted refl) plain c.in-Ok.ensures.accepted error
    (subst (λ (n : ℕ). RefusesToSeal (requests (client_in c.args.context.now)) n plain (length c.args.out.now) error) c.in-Some-new.ensures.made said)
    (ap (λ (r : Refusal). r.status) c.into-in-Err-seal_request.ensures)
    (ap (λ (r : Refusal). r.detail) c.into-in-Err-seal_request.ensures)

pub returns-in-Err-clause-refuses : goal.returns-in-Err-clause-refuses
returns-in-Err-clause-refuses c status why (bad_handle bad _ _) = absurd (bad (c.in-Some.ensures.accepted refl))
returns-in-Err-clause-refuses c status why (bad_number _ bad _ _) = absurd (bad (c.in-Some-new.ensures.accepted refl))
returns-in-Err-clause-refuses c status why (malformed _ _ fault place has x y) = let same = c.in-Err.ensures.refuses fault place has in (ap (λ (r : Refusal). r.status) c.into-in-Err.ensures ∙ (ap format_status same.0 ∙ sym x), ap (λ (r : Refusal). r.detail) c.into-in-Err.ensures ∙ (same.1 ∙ sym y))
returns-in-Err-clause-refuses c status why (refused _ _ p is e refuses x y) = absurd (c.in-Err.ensures.accepts p is)

pub returns-in-Ok-seal_request-clause-refuses : goal.returns-in-Ok-seal_request-clause-refuses
returns-in-Ok-seal_request-clause-refuses c status why (bad_handle bad _ _) = absurd (bad (c.in-Some.ensures.accepted refl))
returns-in-Ok-seal_request-clause-refuses c status why (bad_number _ bad _ _) = absurd (bad (c.in-Some-new.ensures.accepted refl))
returns-in-Ok-seal_request-clause-refuses c status why (malformed _ _ fault place has x y) = absurd (c.one_datagram.ensures.never_both _ _ _ _ c.in-Ok.ensures.accepted has)
returns-in-Ok-seal_request-clause-refuses c status why (refused _ _ p is e refuses x y) = absurd (not_err _ e (c.in-Ok-seal_request.ensures.refuses e (moved (λ (f : Protection ℕ) (i : ℕ) (r : Parts). RefusesToSeal f i r (length c.args.out.now) e) (ap requests (sym c.in-Some.ensures.client)) (sym c.in-Some-new.ensures.made) (c.one_datagram.ensures.one p (parts_of c.in-Ok.message) c.args.plain.now is c.in-Ok.ensures.accepted) refuses)) refl)

pub returns-in-Err-seal_request-clause-refuses : goal.returns-in-Err-seal_request-clause-refuses
returns-in-Err-seal_request-clause-refuses c status why (bad_handle bad _ _) = absurd (bad (c.in-Some.ensures.accepted refl))
returns-in-Err-seal_request-clause-refuses c status why (bad_number _ bad _ _) = absurd (bad (c.in-Some-new.ensures.accepted refl))
returns-in-Err-seal_request-clause-refuses c status why (malformed _ _ fault place has x y) = absurd (c.one_datagram.ensures.never_both _ _ _ _ c.in-Ok.ensures.accepted has)
returns-in-Err-seal_request-clause-refuses c status why (refused _ _ p is e refuses x y) =
    let same = same_error (c.in-Err-seal_request.ensures.refuses e (moved (λ (f : Protection ℕ) (i : ℕ) (r : Parts). RefusesToSeal f i r (length c.args.out.now) e) (ap requests (sym c.in-Some.ensures.client)) (sym c.in-Some-new.ensures.made) (c.one_datagram.ensures.one p (parts_of c.in-Ok.message) c.args.plain.now is c.in-Ok.ensures.accepted) refuses)) in
    (ap (λ (r : Refusal). r.status) c.into-in-Err-seal_request.ensures ∙ (ap seal_status same ∙ sym x), ap (λ (r : Refusal). r.detail) c.into-in-Err-seal_request.ensures ∙ (ap seal_detail same ∙ sym y))

pub returns-in-Err-clause-accepts : goal.returns-in-Err-clause-accepts
returns-in-Err-clause-accepts c p handle numbers is fits = absurd (c.in-Err.ensures.accepts p is)

pub returns-in-Err-seal_request-clause-accepts : goal.returns-in-Err-seal_request-clause-accepts
returns-in-Err-seal_request-clause-accepts c p handle numbers is fits =
    let there = moved (λ (f : Protection ℕ) (i : ℕ) (r : Parts). FitsToSeal f i r (length c.args.out.now)) (ap requests (sym c.in-Some.ensures.client)) (sym c.in-Some-new.ensures.made) (c.one_datagram.ensures.one p (parts_of c.in-Ok.message) c.args.plain.now is c.in-Ok.ensures.accepted) fits in
    absurd (not_err _ c.in-Err-seal_request.error c.in-Err-seal_request.is (c.seal_request.ensures.accepts there))
