use Rattle.std.proofs.Common.{subst, sym}
use Rattle.osc_context.specs.Views.{as_client, as_server}
use Rattle.osc_protect.specs.Protection.{requests}
use Rattle.osc_protect.specs.Views.{opened_responses}
use Rattle.osc_text.specs.declared.opening.Opening.{Opening}
use Rattle.osc_text.specs.Opening.{OpeningText}
use Rattle.osc_text.specs.Outcomes.{open_lines, open_status}
use Rattle.osc_text.proofs.OpenTexts.{text_of_outcome}
use Rattle.osc_text.proofs.opening.write_datagram.Goals as goal

pub returns-in-Request : goal.returns-in-Request
returns-in-Request g c =
    let r = c.open_request.result in
    let s = c.args.context.now in
    let d = c.args.datagram.now in
    let text = text_of_outcome (requests (as_server s)) d r c.open_request.ensures.opened c.open_request.ensures.refused in
    let asked = subst (λ (what : Opening). OpeningText (as_client s) (as_server s) what d (open_lines r) (open_status r)) (sym c.in-Request.is) text in
    (open_lines r, open_status r, asked, c.write_outcome.ensures.written, c.write_outcome.ensures.status)

pub returns-in-Response : goal.returns-in-Response
returns-in-Response g c =
    let r = c.open_response.result in
    let s = c.args.context.now in
    let d = c.args.datagram.now in
    let text = text_of_outcome (opened_responses s c.in-Response.request) d r c.open_response.ensures.opened c.open_response.ensures.refused in
    let asked = subst (λ (what : Opening). OpeningText (as_client s) (as_server s) what d (open_lines r) (open_status r)) (sym c.in-Response.is) text in
    (open_lines r, open_status r, asked, c.write_outcome-in-Response.ensures.written, c.write_outcome-in-Response.ensures.status)
