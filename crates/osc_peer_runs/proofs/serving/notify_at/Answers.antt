use Rattle.std.proofs.Common.{◌∙◌, sym, ap, refl, length, take, Some}
use Rattle.std.specs.Option.{option_map}
use Rattle.osc_coap.specs.Views.{parts_of}
use Rattle.osc_endpoint.specs.ServerRun.{values_in}
use Rattle.osc_life.specs.ServerHistory.{Notify, Replied}
use Rattle.osc_life.specs.Views.{values_of}
use Rattle.osc_endpoint.proofs.Runs.{ticket_seen}
use Rattle.osc_kept_ends.specs.Numbering.{upcoming}
use Rattle.osc_kept_ends.specs.PeerOwning.{own_in}
use Rattle.osc_kept_ends.proofs.ServerSteps.{notification_left}
use Rattle.osc_peer_runs.proofs.PeerRunLemmas.{serves_step, unnotified_step}
use Rattle.osc_peer_runs.proofs.serving.notify_at.Goals as goal

pub returns-in-Err-clause-served : goal.returns-in-Err-clause-served
returns-in-Err-clause-served g c = λ h b.
    let seen = ticket_seen c.args.tickets.now c.args.of ∙ ap (option_map values_of) (sym c.in-Some.ensures) in
    (h, ((values_of c.in-Some.ticket.now, seen, c.in-Err.ensures.refused, refl), refl), b)

pub returns-in-Ok-notify-clause-served : goal.returns-in-Ok-notify-clause-served
returns-in-Ok-notify-clause-served g c = λ h b.
    let seen = ticket_seen c.args.tickets.now c.args.of ∙ ap (option_map values_of) (sym c.in-Some.ensures) in
    let p = parts_of c.in-Ok.message in
    let t = values_of c.in-Some.ticket.now in
    let new = c.notify.new.self in
    let (after, serves, behind) = serves_step h (Notify t p (length c.args.out.now)) (Replied (take c.in-Ok-notify.len c.notify.new.out)) c.args.peer.now.source new.source new.server
    (c.in-Ok-notify.ensures.answered tt h b) (c.in-Ok-notify.ensures.worked tt, c.notify.ensures.rises) in
    let own = own_in c.args.peer.now.source in
    let (passed, passes, step) = c.in-Ok-notify.ensures.answered tt h b in
    let left = notification_left passed t _ _ _ own _ _ step in
    let number = c.sealed_number-number.ensures (upcoming own) (ap Some c.upcoming.ensures) (λ yes. left) in
    (after, (t, seen, p, c.in-Ok.ensures.accepted, serves, number), behind)

pub returns-in-Err-notify-clause-served : goal.returns-in-Err-notify-clause-served
returns-in-Err-notify-clause-served g c = λ h b.
    let ts = c.args.tickets.now in
    let seen = ticket_seen ts c.args.of ∙ ap (option_map values_of) (sym c.in-Some.ensures) in
    unnotified_step h c.args.peer.now.source (values_in ts) c.args.of _ _ c.in-Err-notify.error c.notify.new.self.source (values_of c.in-Some.ticket.now) (parts_of c.in-Ok.message) _ _
    seen c.in-Ok.ensures.accepted b c.in-Err-notify.ensures.failed c.in-Err-notify.ensures.worked c.notify.ensures.rises (λ not. c.in-Err-notify.ensures.answered not h b)
