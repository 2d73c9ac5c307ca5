use Rattle.std.proofs.Common.{◌∙◌, sym, ap, refl, slice_set, Some, None}
use Rattle.std.specs.Prelude.{if◌then◌else◌}
use Rattle.std.specs.Option.{option_map}
use Rattle.osc_coap.specs.Views.{parts_of}
use Rattle.osc_endpoint.specs.ServerRun.{values_in}
use Rattle.osc_life.specs.LifeAnswer.{asks_own}
use Rattle.osc_life.specs.Views.{values_of}
use Rattle.osc_endpoint.proofs.Runs.{none_taken, put_again, ticket_seen, values_taken}
use Rattle.osc_kept_ends.specs.Numbering.{upcoming}
use Rattle.osc_kept_ends.specs.Owning.{own_in}
use Rattle.osc_kept_ends.proofs.ServerSteps.{reply_left}
use Rattle.osc_kept_runs.proofs.KeptRunLemmas.{refused_step}
use Rattle.osc_kept_runs.proofs.server_run.serve_reply.Goals as goal

pub returns-in_default : goal.returns-in_default
returns-in_default g c = λ h k.
    let ts = c.args.tickets.now in
    (h, ((ticket_seen ts c.args.of ∙ ap (option_map values_of) (sym c.in_default.ensures.ticket), refl, ap values_in (c.take_out.ensures.rest ∙ none_taken ts c.args.of c.in_default.ensures.ticket)), refl), k)

pub returns-in-Err : goal.returns-in-Err
returns-in-Err g c = λ h k.
    let ts = c.args.tickets.now in
    let ticket = c.in-Some.ticket in
    let seen = ticket_seen ts c.args.of ∙ ap (option_map values_of) (sym c.in-Some.ensures.ticket) in
    let back = c.put_back.ensures ∙ ap (λ xs. slice_set xs c.args.of (Some ticket)) c.take_out.ensures.rest ∙ put_again ts c.args.of ticket c.in-Some.ensures.ticket in
    (h, ((values_of ticket, seen, c.in-Err.ensures.refused, refl, ap values_in back), refl), k)

pub returns-in-Ok-reply : goal.returns-in-Ok-reply
returns-in-Ok-reply g c = λ h k.
    let ts = c.args.tickets.now in
    let ticket = c.in-Some.ticket in
    let seen = ticket_seen ts c.args.of ∙ ap (option_map values_of) (sym c.in-Some.ensures.ticket) in
    let step = c.in-Ok-reply.ensures.answered tt h k in
    let v = values_of ticket in
    let own = own_in c.args.server.now.source in
    let asks = asks_own v c.args.own in
    let left = reply_left h v asks c.args.mid _ _ _ own _ _ step in
    let number = c.sealed_number-number.ensures (upcoming own) (ap Some c.upcoming.ensures) (λ yes. left (sym c.asks_own.ensures ∙ yes)) ∙ ap (λ b. if b then Some (upcoming own) else None) c.asks_own.ensures in
    (_, (v, seen, parts_of c.in-Ok.message, c.in-Ok.ensures.accepted, (step.row, refl), (step.numbers, c.in-Ok-reply.ensures.worked tt), ap values_in c.take_out.ensures.rest ∙ values_taken ts c.args.of, number), step.kept)

pub returns-in-Err-reply : goal.returns-in-Err-reply
returns-in-Err-reply g c = λ h k.
    let ts = c.args.tickets.now in
    let ticket = c.in-Some.ticket in
    let seen = ticket_seen ts c.args.of ∙ ap (option_map values_of) (sym c.in-Some.ensures.ticket) in
    let back = c.put_back-in-Err-reply.ensures ∙ ap (λ x. slice_set c.take_out.new.tickets c.args.of (Some x)) c.in-Err-reply.ensures.back ∙ ap (λ xs. slice_set xs c.args.of (Some ticket)) c.take_out.ensures.rest ∙ put_again ts c.args.of ticket c.in-Some.ensures.ticket in
    refused_step h c.args.server.now.source (values_in ts) c.args.of c.args.own c.args.mid _ _ c.in-Err-reply.error c.reply.new.self.source _ (values_of ticket) (parts_of c.in-Ok.message) _ _
    seen c.in-Ok.ensures.accepted (ap values_in back) k
    c.in-Err-reply.ensures.failed c.in-Err-reply.ensures.worked (λ not. c.in-Err-reply.ensures.answered not h k) c.in-Err-reply.ensures.unchanged.1
