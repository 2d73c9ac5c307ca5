use Rattle.std.proofs.Common.{◌∙◌, sym, ap, refl, length, slice_set, take, true, Some}
use Rattle.std.specs.Option.{option_map}
use Rattle.osc_endpoint.specs.ServerRun.{values_in}
use Rattle.osc_life.specs.LifeAnswer.{asks_own}
use Rattle.osc_life.specs.ServerHistory.{Replied, Reply}
use Rattle.osc_life.specs.Views.{values_of}
use Rattle.osc_endpoint.proofs.Runs.{none_taken, put_again, ticket_seen, values_taken}
use Rattle.osc_kept_ends.specs.EchoNumber.{echo_of}
use Rattle.osc_kept_ends.specs.Numbering.{upcoming}
use Rattle.osc_kept_ends.specs.PeerOwning.{own_in}
use Rattle.osc_fresh.specs.Wishing.{unobeyed_message}
use Rattle.osc_kept_ends.proofs.ServerSteps.{reply_left}
use Rattle.osc_peer_runs.proofs.PeerRunLemmas.{asks_all, serves_step, unchallenged_step}
use Rattle.osc_peer_runs.proofs.serving.challenge_at.Goals as goal

pub returns-in_default-clause-served : goal.returns-in_default-clause-served
returns-in_default-clause-served g c = λ h b.
    let ts = c.args.tickets.now in
    (h, (ticket_seen ts c.args.of ∙ ap (option_map values_of) (sym c.in_default.ensures.ticket), refl, ap values_in (c.take_out.ensures.rest ∙ none_taken ts c.args.of c.in_default.ensures.ticket), refl), b)

pub returns-in-Ok-clause-served : goal.returns-in-Ok-clause-served
returns-in-Ok-clause-served g c = λ h b.
    let ts = c.args.tickets.now in
    let ticket = c.in-Some.ticket in
    let seen = ticket_seen ts c.args.of ∙ ap (option_map values_of) (sym c.in-Some.ensures.ticket) in
    let t = values_of ticket in
    let new = c.challenge.new.peer in
    let message = unobeyed_message (echo_of (upcoming (own_in c.args.peer.now.source))) in
    let (after, serves, behind) = serves_step h (Reply t (asks_own t true) c.args.mid message (length c.args.out.now)) (Replied (take c.in-Ok.len c.challenge.new.out)) c.args.peer.now.source new.source new.server
    (c.in-Ok.ensures.answered tt h b) (c.in-Ok.ensures.worked tt, c.challenge.ensures.rises) in
    let own = own_in c.args.peer.now.source in
    let (passed, passes, step) = c.in-Ok.ensures.answered tt h b in
    let left = reply_left passed t (asks_own t true) c.args.mid _ _ _ own _ _ step in
    let number = c.sealed_number-number.ensures (upcoming own) (ap Some c.upcoming.ensures) (λ yes. left (asks_all t)) in
    (after, (t, seen, serves, ap values_in c.take_out.ensures.rest ∙ values_taken ts c.args.of, number), behind)

pub returns-in-Err-clause-served : goal.returns-in-Err-clause-served
returns-in-Err-clause-served g c = λ h b.
    let ts = c.args.tickets.now in
    let ticket = c.in-Some.ticket in
    let seen = ticket_seen ts c.args.of ∙ ap (option_map values_of) (sym c.in-Some.ensures.ticket) in
    let back = c.put_back.ensures ∙ ap (λ x. slice_set c.take_out.new.tickets c.args.of (Some x)) c.in-Err.ensures.back ∙ ap (λ xs. slice_set xs c.args.of (Some ticket)) c.take_out.ensures.rest ∙ put_again ts c.args.of ticket c.in-Some.ensures.ticket in
    unchallenged_step h c.args.peer.now.source (values_in ts) c.args.of c.args.mid _ c.in-Err.error c.challenge.new.peer.source _ (values_of ticket) _ _
    seen (ap values_in back) b
    c.in-Err.ensures.failed c.in-Err.ensures.worked c.challenge.ensures.rises (λ not. c.in-Err.ensures.answered not h b)
