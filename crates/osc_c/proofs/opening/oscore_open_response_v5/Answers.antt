use Rattle.std.proofs.Common.{◌∙◌, ◌≡◌, ap, false, subst, IfOk, IsErrAnd, Result}
use Rattle.osc_protect.proofs.Splits.{not_err}
use Rattle.osc_protect.specs.Protection.{responses}
use Rattle.osc_protect.specs.StageViews.{LendsResponse}
use Rattle.osc_protect.specs.declared.stages.ReadResponse.{ReadResponse}
use Rattle.osc_context_handle.specs.ContextBytes.{client_in}
use Rattle.osc_status.specs.Statuses.{code}
use Rattle.osc_status.specs.declared.refusal.Refusal.{Refusal}
use Rattle.osc_c.proofs.opening.oscore_open_response_v5.Goals as goal

pub opened-requires : goal.opened-requires
opened-requires c =
    let lent = subst (λ (r : Result ReadResponse Refusal). IfOk r (λ x. LendsResponse (responses (client_in c.args.context.now) c.args.request) c.args.datagram.now x c.open_response_in-read.result.datagram.now)) c.in-Ok.is c.open_response_in-read.ensures.lends in
    (lent.0, lent.2)

pub returns-in-Ok-clause-opened : goal.returns-in-Ok-clause-opened
returns-in-Ok-clause-opened c done =
    let lent = subst (λ (r : Result ReadResponse Refusal). IfOk r (λ x. LendsResponse (responses (client_in c.args.context.now) c.args.request) c.args.datagram.now x c.open_response_in-read.result.datagram.now)) c.in-Ok.is c.open_response_in-read.ensures.lends in
    (c.opened.result, c.opened.ensures (lent.0) lent.2 (client_in c.args.context.now) false c.args.request c.args.datagram.now lent.1, c.show.ensures.shows, c.show.ensures.all, λ more. (c.show.ensures.first more).0)

pub returns-in-Ok-clause-refuses : goal.returns-in-Ok-clause-refuses
returns-in-Ok-clause-refuses c status why reason =
    absurd (subst (λ (r : Result ReadResponse Refusal). IsErrAnd r (λ x. (x.status ≡ status) × (x.detail ≡ why))) c.in-Ok.is (c.open_response_in-read.ensures.refuses status why reason))

pub returns-in-Err-clause-refuses : goal.returns-in-Err-clause-refuses
returns-in-Err-clause-refuses c status why reason =
    let same = subst (λ (r : Result ReadResponse Refusal). IsErrAnd r (λ x. (x.status ≡ status) × (x.detail ≡ why))) c.in-Err.is (c.open_response_in-read.ensures.refuses status why reason) in
    (c.code.ensures ∙ ap code same.0, same.1)

pub returns-in-Err-clause-accepts : goal.returns-in-Err-clause-accepts
returns-in-Err-clause-accepts c own m handle small protects = absurd (not_err _ c.in-Err.refusal c.in-Err.is (c.open_response_in-read.ensures.accepts own m handle small protects))
