use Rattle.std.proofs.Common.{option_map, subst, sym}
use Rattle.osc_coap.specs.Views.{parts_of}
use Rattle.osc_context.specs.Views.{as_client, as_server, number_of}
use Rattle.osc_protect.specs.Protection.{requests}
use Rattle.osc_protect.specs.Views.{sealed_responses}
use Rattle.osc_text.specs.declared.protection.Sealing.{Sealing}
use Rattle.osc_text.specs.Protecting.{SealingText}
use Rattle.osc_text.specs.Outcomes.{seal_lines, seal_status}
use Rattle.osc_text.proofs.ProtectTexts.{text_of_outcome}
use Rattle.osc_text.proofs.protection.write_message.Goals as goal

pub returns-in-Request : goal.returns-in-Request
returns-in-Request g c =
    let s = c.args.context.now in
    let p = parts_of c.args.message.now in
    let r = c.seal_request-outcome.result in
    let lines = seal_lines c.seal_request-outcome.new.out r in
    let text = text_of_outcome (requests (as_client s)) (number_of c.in-Request.number) p c.seal_request-outcome.new.out r c.seal_request-outcome.ensures.sealed c.seal_request-outcome.ensures.refused in
    let asked = subst (λ (what : Sealing). SealingText (as_client s) (as_server s) what p lines (seal_status r)) (sym c.in-Request.is) text in
    (lines, seal_status r, asked, c.write_outcome.ensures.written, c.write_outcome.ensures.status)

pub returns-in-Response : goal.returns-in-Response
returns-in-Response g c =
    let s = c.args.context.now in
    let p = parts_of c.args.message.now in
    let r = c.seal_response-outcome.result in
    let lines = seal_lines c.seal_response-outcome.new.out r in
    let text = text_of_outcome (sealed_responses s c.in-Response.request) (option_map number_of c.in-Response.own) p c.seal_response-outcome.new.out r c.seal_response-outcome.ensures.sealed c.seal_response-outcome.ensures.refused in
    let asked = subst (λ (what : Sealing). SealingText (as_client s) (as_server s) what p lines (seal_status r)) (sym c.in-Response.is) text in
    (lines, seal_status r, asked, c.write_outcome-in-Response.ensures.written, c.write_outcome-in-Response.ensures.status)
