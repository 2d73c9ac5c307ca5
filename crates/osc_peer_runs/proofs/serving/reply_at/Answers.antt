use Rattle.std.proofs.Common.{◌∙◌, sym, ap, refl, length, slice_set, take, Some, None}
use Rattle.std.specs.Prelude.{if◌then◌else◌}
use Rattle.std.specs.Option.{option_map}
use Rattle.osc_coap.specs.Views.{parts_of}
use Rattle.osc_endpoint.specs.ServerRun.{values_in}
use Rattle.osc_life.specs.LifeAnswer.{asks_own}
use Rattle.osc_life.specs.ServerHistory.{Replied, Reply}
use Rattle.osc_life.specs.Views.{values_of}
use Rattle.osc_endpoint.proofs.Runs.{none_taken, put_again, ticket_seen, values_taken}
use Rattle.osc_kept_ends.specs.Numbering.{upcoming}
use Rattle.osc_kept_ends.specs.PeerOwning.{own_in}
use Rattle.osc_kept_ends.proofs.ServerSteps.{reply_left}
use Rattle.osc_peer_runs.proofs.PeerRunLemmas.{refused_step, serves_step}
use Rattle.osc_peer_runs.proofs.serving.reply_at.Goals as goal

pub returns-in_default-clause-served : goal.returns-in_default-clause-served
returns-in_default-clause-served g c = λ h b.
    let ts = c.args.tickets.now in
    (h, ((ticket_seen ts c.args.of ∙ ap (option_map values_of) (sym c.in_default.ensures.ticket), refl, ap values_in (c.take_out.ensures.rest ∙ none_taken ts c.args.of c.in_default.ensures.ticket)), refl), b)

pub returns-in-Err-clause-served : goal.returns-in-Err-clause-served
returns-in-Err-clause-served g c = λ h b.
    let ts = c.args.tickets.now in
    let ticket = c.in-Some.ticket in
    let seen = ticket_seen ts c.args.of ∙ ap (option_map values_of) (sym c.in-Some.ensures.ticket) in
    let back = c.put_back.ensures ∙ ap (λ xs. slice_set xs c.args.of (Some ticket)) c.take_out.ensures.rest ∙ put_again ts c.args.of ticket c.in-Some.ensures.ticket in
    (h, ((values_of ticket, seen, c.in-Err.ensures.refused, refl, ap values_in back), refl), b)

pub returns-in-Ok-reply-clause-served : goal.returns-in-Ok-reply-clause-served
returns-in-Ok-reply-clause-served g c = λ h b.
    let ts = c.args.tickets.now in
    let ticket = c.in-Some.ticket in
    let seen = ticket_seen ts c.args.of ∙ ap (option_map values_of) (sym c.in-Some.ensures.ticket) in
    let p = parts_of c.in-Ok.message in
    let t = values_of ticket in
    let new = c.reply.new.self in
    let (after, serves, behind) = serves_step h (Reply t (asks_own t c.args.own) c.args.mid p (length c.args.out.now)) (Replied (take c.in-Ok-reply.len c.reply.new.out)) c.args.peer.now.source new.source new.server
    (c.in-Ok-reply.ensures.answered tt h b) (c.in-Ok-reply.ensures.worked tt, c.reply.ensures.rises) in
    let own = own_in c.args.peer.now.source in
    let (passed, passes, step) = c.in-Ok-reply.ensures.answered tt h b in
    let left = reply_left passed t (asks_own t c.args.own) c.args.mid _ _ _ own _ _ step in
    let number = c.sealed_number-number.ensures (upcoming own) (ap Some c.upcoming.ensures) (λ yes. left (sym c.asks_own.ensures ∙ yes)) ∙ ap (λ b. if b then Some (upcoming own) else None) c.asks_own.ensures in
    (after, (t, seen, p, c.in-Ok.ensures.accepted, serves, ap values_in c.take_out.ensures.rest ∙ values_taken ts c.args.of, number), behind)

pub returns-in-Err-reply-clause-served : goal.returns-in-Err-reply-clause-served
returns-in-Err-reply-clause-served g c = λ h b.
    let ts = c.args.tickets.now in
    let ticket = c.in-Some.ticket in
    let seen = ticket_seen ts c.args.of ∙ ap (option_map values_of) (sym c.in-Some.ensures.ticket) in
    let back = c.put_back-in-Err-reply.ensures ∙ ap (λ x. slice_set c.take_out.new.tickets c.args.of (Some x)) c.in-Err-reply.ensures.back ∙ ap (λ xs. slice_set xs c.args.of (Some ticket)) c.take_out.ensures.rest ∙ put_again ts c.args.of ticket c.in-Some.ensures.ticket in
    refused_step h c.args.peer.now.source (values_in ts) c.args.of c.args.own c.args.mid _ _ c.in-Err-reply.error c.reply.new.self.source _ (values_of ticket) (parts_of c.in-Ok.message) _ _
    seen c.in-Ok.ensures.accepted (ap values_in back) b
    c.in-Err-reply.ensures.failed c.in-Err-reply.ensures.worked c.reply.ensures.rises (λ not. c.in-Err-reply.ensures.answered not h b)
