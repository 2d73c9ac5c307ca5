use Rattle.std.proofs.Common.{◌∙◌, ℕ, Option, ap, refl, subst, sym}
use Rattle.osc_protect.specs.Protection.{Protection, Protects, responses}
use Rattle.osc_protect.specs.Refusals.{RefusesToOpen}
use Rattle.osc_protect.specs.StageViews.{LendsResponse}
use Rattle.osc_protect.proofs.Splits.{not_err}
use Rattle.osc_c.specs.Calls.RefusesOpening.{refused}
use Rattle.osc_status.specs.declared.refusal.Refusal.{Refusal}
use Rattle.osc_context_handle.specs.ContextBytes.{client_in}
use Rattle.osc_c.proofs.LeftBytes.{never_refuses, response_left}
use Rattle.osc_c.proofs.Moved.{plainly}
use Rattle.osc_c.proofs.opening.open_response_in.Goals as goal

pub returns-in-Ok-clause-lends : goal.returns-in-Ok-clause-lends
returns-in-Ok-clause-lends c =
    let named = plainly _ _ c.new-2.result _ c.in-Some.ensures.client c.new-2.ensures.plain (c.new-2.ensures.number ∙ c.in-Some-new.ensures.made) in
    subst (λ (f : Protection (Option ℕ)). LendsResponse f c.args.datagram.now c.in-Ok.read c.unprotect_response.new.datagram) named c.in-Ok.ensures.lends

pub returns-in-Ok-clause-refuses : goal.returns-in-Ok-clause-refuses
returns-in-Ok-clause-refuses c status why reason =
    let named = plainly _ _ c.new-2.result _ c.in-Some.ensures.client c.new-2.ensures.plain (c.new-2.ensures.number ∙ c.in-Some-new.ensures.made) in
    never_refuses (responses (client_in c.args.context.now) c.args.request) c.args.datagram.now status why (c.in-Some.ensures.accepted refl) (c.in-Some-new.ensures.accepted refl)
    (λ e refuses.
    let both = c.in-Ok.ensures.refuses e (subst (λ (f : Protection (Option ℕ)). RefusesToOpen f c.args.datagram.now e) (sym named) refuses) in cc)
    reason

pub returns-in-Err-clause-refused : goal.returns-in-Err-clause-refused
returns-in-Err-clause-refused c =
    let named = plainly _ _ c.new-2.result _ c.in-Some.ensures.client c.new-2.ensures.plain (c.new-2.ensures.number ∙ c.in-Some-new.ensures.made) in
    refused (c.in-Some.ensures.accepted refl) (c.in-Some-new.ensures.accepted refl) c.in-Err.error
    (subst (λ (f : Protection (Option ℕ)). RefusesToOpen f c.args.datagram.now c.in-Err.error) named c.in-Err.ensures.refused)
    (ap (λ (r : Refusal). r.status) c.into-in-Err.ensures)
    (ap (λ (r : Refusal). r.detail) c.into-in-Err.ensures)

pub returns-in-Err-clause-accepts : goal.returns-in-Err-clause-accepts
returns-in-Err-clause-accepts c own m handle small protects =
    let named = plainly _ _ c.new-2.result _ c.in-Some.ensures.client c.new-2.ensures.plain (c.new-2.ensures.number ∙ c.in-Some-new.ensures.made) in
    absurd (not_err _ c.in-Err.error c.in-Err.is (c.unprotect_response.ensures.accepts own m (subst (λ (f : Protection (Option ℕ)). Protects f own m c.args.datagram.now) (sym named) protects)))

pub returns-in-Err-clause-left : goal.returns-in-Err-clause-left
returns-in-Err-clause-left c =
    let named = plainly _ _ c.new-2.result _ c.in-Some.ensures.client c.new-2.ensures.plain (c.new-2.ensures.number ∙ c.in-Some-new.ensures.made) in
    response_left _ _ c.args.datagram.now c.unprotect_response.new.datagram c.in-Err.error _ named (ap (λ (r : Refusal). r.status) c.into-in-Err.ensures) c.in-Err.ensures.left
