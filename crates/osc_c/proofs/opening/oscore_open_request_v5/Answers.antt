use Rattle.std.proofs.Common.{◌∙◌, ◌≡◌, ap, subst, IfOk, IsErrAnd, Result}
use Rattle.osc_protect.proofs.Splits.{not_err}
use Rattle.osc_protect.specs.Protection.{requests}
use Rattle.osc_protect.specs.StageViews.{LendsRequest}
use Rattle.osc_protect.specs.declared.stages.ReadRequest.{ReadRequest}
use Rattle.osc_context_handle.specs.ContextBytes.{server_in}
use Rattle.osc_status.specs.Statuses.{code}
use Rattle.osc_status.specs.declared.refusal.Refusal.{Refusal}
use Rattle.osc_c.proofs.opening.oscore_open_request_v5.Goals as goal

pub opened-requires : goal.opened-requires
opened-requires c =
    let lent = subst (λ (r : Result ReadRequest Refusal). IfOk r (λ x. LendsRequest (requests (server_in c.args.context.now)) c.args.datagram.now x c.open_request_in-read.result.datagram.now)) c.in-Ok.is c.open_request_in-read.ensures.lends in
    (lent.0, lent.2)

pub returns-in-Ok-clause-opened : goal.returns-in-Ok-clause-opened
returns-in-Ok-clause-opened c done =
    let lent = subst (λ (r : Result ReadRequest Refusal). IfOk r (λ x. LendsRequest (requests (server_in c.args.context.now)) c.args.datagram.now x c.open_request_in-read.result.datagram.now)) c.in-Ok.is c.open_request_in-read.ensures.lends in
    (c.opened.result, c.opened.ensures (lent.0) lent.2 (server_in c.args.context.now) c.args.datagram.now lent.1, c.show.ensures.shows, c.show.ensures.all, λ more. (c.show.ensures.first more).0)

pub returns-in-Ok-clause-refuses : goal.returns-in-Ok-clause-refuses
returns-in-Ok-clause-refuses c status why reason =
    absurd (subst (λ (r : Result ReadRequest Refusal). IsErrAnd r (λ x. (x.status ≡ status) × (x.detail ≡ why))) c.in-Ok.is (c.open_request_in-read.ensures.refuses status why reason))

pub returns-in-Err-clause-refuses : goal.returns-in-Err-clause-refuses
returns-in-Err-clause-refuses c status why reason =
    let same = subst (λ (r : Result ReadRequest Refusal). IsErrAnd r (λ x. (x.status ≡ status) × (x.detail ≡ why))) c.in-Err.is (c.open_request_in-read.ensures.refuses status why reason) in
    (c.code.ensures ∙ ap code same.0, same.1)

pub returns-in-Err-clause-accepts : goal.returns-in-Err-clause-accepts
returns-in-Err-clause-accepts c n m handle protects = absurd (not_err _ c.in-Err.refusal c.in-Err.is (c.open_request_in-read.ensures.accepts n m handle protects))
