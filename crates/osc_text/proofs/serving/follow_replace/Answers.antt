use Rattle.std.proofs.Common.{◌++◌, ◌∷◌, ◌∙◌, [], None, ap, refl}
use Rattle.osc_endpoint.proofs.Runs.{values_more}
use Rattle.osc_endpoint.specs.ServerRun.{values_in}
use Rattle.osc_life.specs.Text.{replace_error_text}
use Rattle.osc_text.specs.EntryLines.{not_done_line, replaced_line}
use Rattle.osc_text.specs.Feeding.RunsEvent.{ran}
use Rattle.osc_text.specs.Serving.ReplaceLine.{refused, replaced}
use Rattle.osc_text.proofs.serving.follow_replace.Goals as goal

pub returns-in-Ok : goal.returns-in-Ok
returns-in-Ok g c =
    let tickets = ap values_in (c.push_reserved.ensures.items ∙ ap (λ z. z ++ None ∷ []) c.reserve.ensures.items) ∙ values_more c.args.memory.now.items None in
    ran replaced_line (λ h agrees. (_, replaced (c.in-Ok.ensures.answered h agrees, refl) refl, c.in-Ok.ensures.follows h agrees, tickets)) c.put_replaced.ensures

pub returns-in-Err : goal.returns-in-Err
returns-in-Err g c =
    let tickets = ap values_in (c.push_reserved.ensures.items ∙ ap (λ z. z ++ None ∷ []) c.reserve.ensures.items) ∙ values_more c.args.memory.now.items None in
    ran (not_done_line (replace_error_text c.in-Err.refusal)) (λ h agrees. (_, refused c.in-Err.refusal (c.in-Err.ensures.answered h agrees, refl) refl, c.in-Err.ensures.follows h agrees, tickets)) c.put_not_done.ensures
