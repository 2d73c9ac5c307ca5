use Rattle.std.proofs.Common.{refl, Ok, Err, rules}
use Rattle.osc_context.specs.Views.{as_server}
use Rattle.osc_protect.specs.StageViews.{LeavesRequest, LendsRequest}
use Rattle.osc_protect.specs.Views.{opened_requests}
use Rattle.osc_protect.specs.declared.unprotect_error.UnprotectError.TheVariants.{Inner, Tag}
use Rattle.osc_protect.proofs.Staged.{unprotects_exactly, no_response}
use Rattle.osc_protect.proofs.opening.unprotect_request_by.Goals as goal

pub returns-in_err-sealed : goal.returns-in_err-sealed
returns-in_err-sealed c = unprotects_exactly (opened_requests c.args.recipient.context.now) (c.one_request.ensures (as_server c.args.recipient.context.now)) c.args.datagram.now (LendsRequest (opened_requests c.args.recipient.context.now)) (LeavesRequest (opened_requests c.args.recipient.context.now)) c.args.datagram.now c.from_residual.result (search rules) (search rules) (search rules) (λ response. absurd (no_response response)) (search rules)

pub returns-in_default : goal.returns-in_default
returns-in_default c = unprotects_exactly (opened_requests c.args.recipient.context.now) (c.one_request.ensures (as_server c.args.recipient.context.now)) c.args.datagram.now (LendsRequest (opened_requests c.args.recipient.context.now)) (LeavesRequest (opened_requests c.args.recipient.context.now)) c.decrypt_request_by.new.datagram (Err Tag) tt tt (search rules) (λ response. absurd (no_response response)) (search rules)

pub returns-in-Ok-inspect_request : goal.returns-in-Ok-inspect_request
returns-in-Ok-inspect_request c = unprotects_exactly (opened_requests c.args.recipient.context.now) (c.one_request.ensures (as_server c.args.recipient.context.now)) c.args.datagram.now (LendsRequest (opened_requests c.args.recipient.context.now)) (LeavesRequest (opened_requests c.args.recipient.context.now)) c.decrypt_request_by.new.datagram (Ok c.in-Ok-inspect_request.read) (c.in-Ok.decrypted, c.in-Ok.ensures.decrypted, c.in-Ok-inspect_request.ensures.placed) (c.in-Ok-inspect_request.ensures.accepted (as_server c.args.recipient.context.now) c.args.datagram.now c.in-Ok.ensures.decrypted) tt (λ response. tt) tt

pub returns-in-Err : goal.returns-in-Err
returns-in-Err c = unprotects_exactly (opened_requests c.args.recipient.context.now) (c.one_request.ensures (as_server c.args.recipient.context.now)) c.args.datagram.now (LendsRequest (opened_requests c.args.recipient.context.now)) (LeavesRequest (opened_requests c.args.recipient.context.now)) c.decrypt_request_by.new.datagram (Err Inner) tt tt (c.in-Err.ensures.refused (as_server c.args.recipient.context.now) c.args.datagram.now c.in-Ok.ensures.decrypted) (λ response. absurd (no_response response)) (record { same = λ other. absurd (other refl); decrypted = λ _. (c.in-Ok.decrypted, c.in-Ok.ensures.decrypted) })
