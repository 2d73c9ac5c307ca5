use Rattle.std.proofs.Common.{ap, refl, subst, sym}
use Rattle.osc_context.specs.SecurityContext.{SecurityContext}
use Rattle.osc_protect.specs.Protection.{ProtectsRequest, requests}
use Rattle.osc_protect.specs.Refusals.{RefusesToOpen}
use Rattle.osc_protect.specs.StageViews.{LendsRequest}
use Rattle.osc_protect.proofs.Splits.{not_err}
use Rattle.osc_context_handle.specs.ContextBytes.{server_in}
use Rattle.osc_c.specs.Calls.RefusesOpening.{refused}
use Rattle.osc_status.specs.declared.refusal.Refusal.{Refusal}
use Rattle.osc_c.proofs.LeftBytes.{request_left}
use Rattle.osc_c.proofs.opening.open_request_in.Goals as goal

pub returns-in-Ok-clause-lends : goal.returns-in-Ok-clause-lends
returns-in-Ok-clause-lends c =
    subst (λ (s : SecurityContext). LendsRequest (requests s) c.args.datagram.now c.in-Ok.read c.unprotect_request.new.datagram) c.in-Some.ensures.server c.in-Ok.ensures.lends

pub returns-in-Err-clause-refused : goal.returns-in-Err-clause-refused
returns-in-Err-clause-refused c =
    refused (c.in-Some.ensures.accepted refl) tt c.in-Err.error
    (subst (λ (s : SecurityContext). RefusesToOpen (requests s) c.args.datagram.now c.in-Err.error) c.in-Some.ensures.server c.in-Err.ensures.refused)
    (ap (λ (r : Refusal). r.status) c.into-in-Err.ensures)
    (ap (λ (r : Refusal). r.detail) c.into-in-Err.ensures)

pub returns-in-Err-clause-accepts : goal.returns-in-Err-clause-accepts
returns-in-Err-clause-accepts c n m handle protects =
    absurd (not_err _ c.in-Err.error c.in-Err.is (c.unprotect_request.ensures.accepts n m (subst (λ (s : SecurityContext). ProtectsRequest s n m c.args.datagram.now) (sym c.in-Some.ensures.server) protects)))

pub returns-in-Err-clause-left : goal.returns-in-Err-clause-left
returns-in-Err-clause-left c =
    request_left _ (requests (server_in c.args.context.now)) c.args.datagram.now c.unprotect_request.new.datagram c.in-Err.error _ (ap requests c.in-Some.ensures.server)
    (ap (λ (r : Refusal). r.status) c.into-in-Err.ensures) c.in-Err.ensures.left
