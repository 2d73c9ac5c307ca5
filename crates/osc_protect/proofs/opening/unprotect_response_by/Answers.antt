use Rattle.std.proofs.Common.{refl, Ok, Err, rules}
use Rattle.osc_context.specs.Views.{as_client}
use Rattle.osc_protect.specs.StageViews.{LeavesResponse, LendsResponse}
use Rattle.osc_protect.specs.Views.{opened_responses, registers, request_number}
use Rattle.osc_protect.specs.declared.unprotect_error.UnprotectError.TheVariants.{Inner, Tag}
use Rattle.osc_protect.proofs.Staged.{unprotects_exactly, one_to}
use Rattle.osc_protect.specs.Refusals.{RefusesToOpen}
use Rattle.osc_protect.proofs.opening.unprotect_response_by.Goals as goal

pub returns-in_err-sealed : goal.returns-in_err-sealed
returns-in_err-sealed c =
    let refused : RefusesToOpen (opened_responses c.args.recipient.context.now c.args.request.now) c.args.datagram.now _ = c.in_err-sealed.ensures.refused (as_client c.args.recipient.context.now) (registers c.args.request.now) (request_number c.args.request.now) in
    unprotects_exactly (opened_responses c.args.recipient.context.now c.args.request.now) (one_to c.one_response.ensures c.one_notification.ensures (as_client c.args.recipient.context.now) (registers c.args.request.now) (request_number c.args.request.now)) c.args.datagram.now (LendsResponse (opened_responses c.args.recipient.context.now c.args.request.now)) (LeavesResponse (opened_responses c.args.recipient.context.now c.args.request.now)) c.args.datagram.now c.from_residual.result (search rules) (search rules) (search rules) (λ response. search rules) (search rules)

pub decrypt_response_by-requires : goal.decrypt_response_by-requires
decrypt_response_by-requires c = c.in_ok-sealed.ensures.found (as_client c.args.recipient.context.now) (registers c.args.request.now) (request_number c.args.request.now)

pub returns-in_default : goal.returns-in_default
returns-in_default c = unprotects_exactly (opened_responses c.args.recipient.context.now c.args.request.now) (one_to c.one_response.ensures c.one_notification.ensures (as_client c.args.recipient.context.now) (registers c.args.request.now) (request_number c.args.request.now)) c.args.datagram.now (LendsResponse (opened_responses c.args.recipient.context.now c.args.request.now)) (LeavesResponse (opened_responses c.args.recipient.context.now c.args.request.now)) c.decrypt_response_by.new.datagram (Err Tag) tt tt (search rules) (λ response. search rules) (search rules)

pub returns-in-Ok-inspect_response : goal.returns-in-Ok-inspect_response
returns-in-Ok-inspect_response c = unprotects_exactly (opened_responses c.args.recipient.context.now c.args.request.now) (one_to c.one_response.ensures c.one_notification.ensures (as_client c.args.recipient.context.now) (registers c.args.request.now) (request_number c.args.request.now)) c.args.datagram.now (LendsResponse (opened_responses c.args.recipient.context.now c.args.request.now)) (LeavesResponse (opened_responses c.args.recipient.context.now c.args.request.now)) c.decrypt_response_by.new.datagram (Ok c.in-Ok-inspect_response.read) (c.in-Ok.decrypted, c.in-Ok.ensures.decrypted, c.in-Ok-inspect_response.ensures.placed) (c.in-Ok-inspect_response.ensures.accepted (as_client c.args.recipient.context.now) (registers c.args.request.now) (request_number c.args.request.now) c.args.datagram.now c.in-Ok.ensures.decrypted) tt (λ response. tt) tt

pub returns-in-Err : goal.returns-in-Err
returns-in-Err c = unprotects_exactly (opened_responses c.args.recipient.context.now c.args.request.now) (one_to c.one_response.ensures c.one_notification.ensures (as_client c.args.recipient.context.now) (registers c.args.request.now) (request_number c.args.request.now)) c.args.datagram.now (LendsResponse (opened_responses c.args.recipient.context.now c.args.request.now)) (LeavesResponse (opened_responses c.args.recipient.context.now c.args.request.now)) c.decrypt_response_by.new.datagram (Err Inner) tt tt (c.in-Err.ensures.refused (as_client c.args.recipient.context.now) (registers c.args.request.now) (request_number c.args.request.now) c.args.datagram.now c.in-Ok.ensures.decrypted) (λ response. search rules) (record { same = λ other. absurd (other refl); decrypted = λ _. (c.in-Ok.decrypted, c.in-Ok.ensures.decrypted) })
