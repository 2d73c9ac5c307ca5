use Rattle.std.proofs.Common.{◌≢◌, Ok, Err, IfErr, IfOk, Result, subst}
use Rattle.osc_context.specs.Views.{as_server}
use Rattle.osc_protect.specs.Refusals.{RefusesToOpen}
use Rattle.osc_protect.specs.StageViews.{LendsRequest}
use Rattle.osc_protect.specs.Views.{opened_requests}
use Rattle.osc_protect.specs.declared.stages.ReadRequest.{ReadRequest}
use Rattle.osc_protect.specs.declared.unprotect_error.UnprotectError.{UnprotectError}
use Rattle.osc_protect.specs.declared.unprotect_error.UnprotectError.TheVariants.{WrongContext}
use Rattle.osc_protect.proofs.Staged.{opens_exactly}
use Rattle.osc_protect.proofs.opening.open_request_by.Goals as goal

pub opened-requires : goal.opened-requires
opened-requires c =
    let lent = subst (λ (r : Result ReadRequest UnprotectError). IfOk r (λ x. LendsRequest (opened_requests c.args.recipient.context.now) c.args.datagram.now x c.unprotect_and_lend_request-read.result.datagram.now)) c.in-Ok.is c.unprotect_and_lend_request-read.ensures.lends in
    (lent.0, lent.2)

pub returns-in-Ok : goal.returns-in-Ok
returns-in-Ok c =
    let lent = subst (λ (r : Result ReadRequest UnprotectError). IfOk r (λ x. LendsRequest (opened_requests c.args.recipient.context.now) c.args.datagram.now x c.unprotect_and_lend_request-read.result.datagram.now)) c.in-Ok.is c.unprotect_and_lend_request-read.ensures.lends in
    opens_exactly (opened_requests c.args.recipient.context.now) (c.one_request.ensures (as_server c.args.recipient.context.now)) c.args.datagram.now (Ok c.opened.result) (c.opened.ensures (lent.0) lent.2 (as_server c.args.recipient.context.now) c.args.datagram.now lent.1) tt (λ response. tt)

pub returns-in-Err : goal.returns-in-Err
returns-in-Err c =
    let refused = subst (λ (r : Result ReadRequest UnprotectError). IfErr r (λ e. RefusesToOpen (opened_requests c.args.recipient.context.now) c.args.datagram.now e)) c.in-Err.is c.unprotect_and_lend_request-read.ensures.refused in
    opens_exactly (opened_requests c.args.recipient.context.now) (c.one_request.ensures (as_server c.args.recipient.context.now)) c.args.datagram.now (Err c.in-Err.error) tt refused (λ response. subst (λ (r : Result ReadRequest UnprotectError). IfErr r (λ e. e ≢ WrongContext)) c.in-Err.is (c.unprotect_and_lend_request-read.ensures.no_wrong_context response))
