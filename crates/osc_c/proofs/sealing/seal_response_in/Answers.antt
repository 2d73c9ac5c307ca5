use Rattle.std.proofs.Common.{◌∙◌, sym, ℕ, Option, ap, refl, subst, length}
use Rattle.std.specs.Option.{option_map}
use Rattle.osc_coap.specs.Datagram.{Parts}
use Rattle.osc_coap.specs.Views.{parts_of}
use Rattle.osc_context.specs.Views.{number_of}
use Rattle.osc_protect.proofs.Splits.{not_err}
use Rattle.osc_protect.specs.Protection.{Protection, responses}
use Rattle.osc_protect.specs.SealRefusals.{FitsToSeal, RefusesToSeal}
use Rattle.osc_c.specs.Calls.RefusesSealing.{bad_handle, bad_number, malformed, refused}
use Rattle.osc_context_handle.specs.ContextBytes.{server_in}
use Rattle.osc_status.specs.Statuses.{format_status, seal_detail, seal_status}
use Rattle.osc_status.specs.declared.refusal.Refusal.{Refusal}
use Rattle.osc_c.proofs.Moved.{moved, plainly, same_error}
use Rattle.osc_c.proofs.sealing.seal_response_in.Goals as goal

pub returns-in-Err-clause-refused : goal.returns-in-Err-clause-refused
returns-in-Err-clause-refused c =
    malformed (c.in-Some.ensures.accepted refl) (record { request = c.in-Some-new.ensures.accepted refl; own = c.in-Some-own_number.ensures.accepted refl }) c.in-Err.error.fault c.in-Err.error.place c.in-Err.ensures.refused
    (ap (λ (r : Refusal). r.status) c.into-in-Err.ensures)
    (ap (λ (r : Refusal). r.detail) c.into-in-Err.ensures)

pub returns-in-Err-seal_response-clause-refused : goal.returns-in-Err-seal_response-clause-refused
returns-in-Err-seal_response-clause-refused c =
    let plain = parts_of c.in-Ok.message in
    let error = c.in-Err-seal_response.error in
    let room = length c.args.out.now in
    let own = option_map number_of c.in-Some-own_number.own in
    let named = plainly _ _ c.new-2.result _ c.in-Some.ensures.server c.new-2.ensures.plain (c.new-2.ensures.number ∙ c.in-Some-new.ensures.made) in
    let asked = subst (λ (f : Protection (Option ℕ)). RefusesToSeal f own plain room error) named c.in-Err-seal_response.ensures.refused in
    refused (c.in-Some.ensures.accepted refl) (record { request = c.in-Some-new.ensures.accepted refl; own = c.in-Some-own_number.ensures.accepted refl }) plain c.in-Ok.ensures.accepted error
    (subst (λ (i : Option ℕ). RefusesToSeal (responses (server_in c.args.context.now) c.args.request) i plain room error) c.in-Some-own_number.ensures.made asked)
    (ap (λ (r : Refusal). r.status) c.into-in-Err-seal_response.ensures)
    (ap (λ (r : Refusal). r.detail) c.into-in-Err-seal_response.ensures)

pub returns-in-Err-clause-refuses : goal.returns-in-Err-clause-refuses
returns-in-Err-clause-refuses c status why (bad_handle bad _ _) = absurd (bad (c.in-Some.ensures.accepted refl))
returns-in-Err-clause-refuses c status why (bad_number _ bad _ _) = absurd (bad (record { request = c.in-Some-new.ensures.accepted refl; own = c.in-Some-own_number.ensures.accepted refl }))
returns-in-Err-clause-refuses c status why (malformed _ _ fault place has x y) = let same = c.in-Err.ensures.refuses fault place has in (ap (λ (r : Refusal). r.status) c.into-in-Err.ensures ∙ (ap format_status same.0 ∙ sym x), ap (λ (r : Refusal). r.detail) c.into-in-Err.ensures ∙ (same.1 ∙ sym y))
returns-in-Err-clause-refuses c status why (refused _ _ p is e refuses x y) = absurd (c.in-Err.ensures.accepts p is)

pub returns-in-Ok-seal_response-clause-refuses : goal.returns-in-Ok-seal_response-clause-refuses
returns-in-Ok-seal_response-clause-refuses c status why (bad_handle bad _ _) = absurd (bad (c.in-Some.ensures.accepted refl))
returns-in-Ok-seal_response-clause-refuses c status why (bad_number _ bad _ _) = absurd (bad (record { request = c.in-Some-new.ensures.accepted refl; own = c.in-Some-own_number.ensures.accepted refl }))
returns-in-Ok-seal_response-clause-refuses c status why (malformed _ _ fault place has x y) = absurd (c.one_datagram.ensures.never_both _ _ _ _ c.in-Ok.ensures.accepted has)
returns-in-Ok-seal_response-clause-refuses c status why (refused _ _ p is e refuses x y) = absurd (not_err _ e (c.in-Ok-seal_response.ensures.refuses e (moved (λ (f : Protection (Option ℕ)) (i : (Option ℕ)) (r : Parts). RefusesToSeal f i r (length c.args.out.now) e) (sym (plainly _ _ c.new-2.result _ c.in-Some.ensures.server c.new-2.ensures.plain (c.new-2.ensures.number ∙ c.in-Some-new.ensures.made))) (sym c.in-Some-own_number.ensures.made) (c.one_datagram.ensures.one p (parts_of c.in-Ok.message) c.args.plain.now is c.in-Ok.ensures.accepted) refuses)) refl)

pub returns-in-Err-seal_response-clause-refuses : goal.returns-in-Err-seal_response-clause-refuses
returns-in-Err-seal_response-clause-refuses c status why (bad_handle bad _ _) = absurd (bad (c.in-Some.ensures.accepted refl))
returns-in-Err-seal_response-clause-refuses c status why (bad_number _ bad _ _) = absurd (bad (record { request = c.in-Some-new.ensures.accepted refl; own = c.in-Some-own_number.ensures.accepted refl }))
returns-in-Err-seal_response-clause-refuses c status why (malformed _ _ fault place has x y) = absurd (c.one_datagram.ensures.never_both _ _ _ _ c.in-Ok.ensures.accepted has)
returns-in-Err-seal_response-clause-refuses c status why (refused _ _ p is e refuses x y) =
    let same = same_error (c.in-Err-seal_response.ensures.refuses e (moved (λ (f : Protection (Option ℕ)) (i : (Option ℕ)) (r : Parts). RefusesToSeal f i r (length c.args.out.now) e) (sym (plainly _ _ c.new-2.result _ c.in-Some.ensures.server c.new-2.ensures.plain (c.new-2.ensures.number ∙ c.in-Some-new.ensures.made))) (sym c.in-Some-own_number.ensures.made) (c.one_datagram.ensures.one p (parts_of c.in-Ok.message) c.args.plain.now is c.in-Ok.ensures.accepted) refuses)) in
    (ap (λ (r : Refusal). r.status) c.into-in-Err-seal_response.ensures ∙ (ap seal_status same ∙ sym x), ap (λ (r : Refusal). r.detail) c.into-in-Err-seal_response.ensures ∙ (ap seal_detail same ∙ sym y))

pub returns-in-Err-clause-accepts : goal.returns-in-Err-clause-accepts
returns-in-Err-clause-accepts c p handle numbers is fits = absurd (c.in-Err.ensures.accepts p is)

pub returns-in-Err-seal_response-clause-accepts : goal.returns-in-Err-seal_response-clause-accepts
returns-in-Err-seal_response-clause-accepts c p handle numbers is fits =
    let there = moved (λ (f : Protection (Option ℕ)) (i : (Option ℕ)) (r : Parts). FitsToSeal f i r (length c.args.out.now)) (sym (plainly _ _ c.new-2.result _ c.in-Some.ensures.server c.new-2.ensures.plain (c.new-2.ensures.number ∙ c.in-Some-new.ensures.made))) (sym c.in-Some-own_number.ensures.made) (c.one_datagram.ensures.one p (parts_of c.in-Ok.message) c.args.plain.now is c.in-Ok.ensures.accepted) fits in
    absurd (not_err _ c.in-Err-seal_response.error c.in-Err-seal_response.is (c.seal_response.ensures.accepts there))
