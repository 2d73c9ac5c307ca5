use Rattle.std.proofs.Common.{◌≢◌, Ok, Err, IfErr, IfOk, Result, subst}
use Rattle.osc_context.specs.Views.{as_client}
use Rattle.osc_protect.specs.Refusals.{RefusesToOpen}
use Rattle.osc_protect.specs.StageViews.{LendsResponse}
use Rattle.osc_protect.specs.Views.{opened_responses, registers, request_number}
use Rattle.osc_protect.specs.declared.stages.ReadResponse.{ReadResponse}
use Rattle.osc_protect.specs.declared.unprotect_error.UnprotectError.{UnprotectError}
use Rattle.osc_protect.specs.declared.unprotect_error.UnprotectError.TheVariants.{WrongContext}
use Rattle.osc_protect.proofs.Staged.{opens_exactly, one_to}
use Rattle.osc_protect.proofs.opening.open_response_by.Goals as goal

pub opened-requires : goal.opened-requires
opened-requires c =
    let lent = subst (λ (r : Result ReadResponse UnprotectError). IfOk r (λ x. LendsResponse (opened_responses c.args.recipient.context.now c.args.request.now) c.args.datagram.now x c.unprotect_and_lend_response-read.result.datagram.now)) c.in-Ok.is c.unprotect_and_lend_response-read.ensures.lends in
    (lent.0, lent.2)

pub returns-in-Ok : goal.returns-in-Ok
returns-in-Ok c =
    let lent = subst (λ (r : Result ReadResponse UnprotectError). IfOk r (λ x. LendsResponse (opened_responses c.args.recipient.context.now c.args.request.now) c.args.datagram.now x c.unprotect_and_lend_response-read.result.datagram.now)) c.in-Ok.is c.unprotect_and_lend_response-read.ensures.lends in
    opens_exactly (opened_responses c.args.recipient.context.now c.args.request.now) (one_to c.one_response.ensures c.one_notification.ensures (as_client c.args.recipient.context.now) (registers c.args.request.now) (request_number c.args.request.now)) c.args.datagram.now (Ok c.opened.result) (c.opened.ensures (lent.0) lent.2 (as_client c.args.recipient.context.now) (registers c.args.request.now) (request_number c.args.request.now) c.args.datagram.now lent.1) tt (λ response. tt)

pub returns-in-Err : goal.returns-in-Err
returns-in-Err c =
    let refused = subst (λ (r : Result ReadResponse UnprotectError). IfErr r (λ e. RefusesToOpen (opened_responses c.args.recipient.context.now c.args.request.now) c.args.datagram.now e)) c.in-Err.is c.unprotect_and_lend_response-read.ensures.refused in
    opens_exactly (opened_responses c.args.recipient.context.now c.args.request.now) (one_to c.one_response.ensures c.one_notification.ensures (as_client c.args.recipient.context.now) (registers c.args.request.now) (request_number c.args.request.now)) c.args.datagram.now (Err c.in-Err.error) tt refused (λ response. subst (λ (r : Result ReadResponse UnprotectError). IfErr r (λ e. e ≢ WrongContext)) c.in-Err.is (c.unprotect_and_lend_response-read.ensures.no_wrong_context response))
