use Rattle.std.proofs.Common.{◌∙◌, sym, ap, refl, Some}
use Rattle.std.specs.Option.{option_map}
use Rattle.osc_coap.specs.Views.{parts_of}
use Rattle.osc_endpoint.specs.ServerRun.{values_in}
use Rattle.osc_life.specs.Views.{values_of}
use Rattle.osc_endpoint.proofs.Runs.{ticket_seen}
use Rattle.osc_kept_ends.specs.Numbering.{upcoming}
use Rattle.osc_kept_ends.specs.Owning.{own_in}
use Rattle.osc_kept_ends.proofs.ServerSteps.{notification_left}
use Rattle.osc_kept_runs.proofs.KeptRunLemmas.{unnotified_step}
use Rattle.osc_kept_runs.proofs.server_run.serve_notify.Goals as goal

pub returns-in-Err : goal.returns-in-Err
returns-in-Err g c = λ h k.
    let seen = ticket_seen c.args.tickets.now c.args.of ∙ ap (option_map values_of) (sym c.in-Some.ensures) in
    (h, ((values_of c.in-Some.ticket.now, seen, c.in-Err.ensures.refused, refl), refl), k)

pub returns-in-Ok-notify : goal.returns-in-Ok-notify
returns-in-Ok-notify g c = λ h k.
    let seen = ticket_seen c.args.tickets.now c.args.of ∙ ap (option_map values_of) (sym c.in-Some.ensures) in
    let step = c.in-Ok-notify.ensures.answered tt h k in
    let t = values_of c.in-Some.ticket.now in
    let own = own_in c.args.server.now.source in
    let left = notification_left h t _ _ _ own _ _ step in
    let number = c.sealed_number-number.ensures (upcoming own) (ap Some c.upcoming.ensures) (λ yes. left) in
    (_, (t, seen, parts_of c.in-Ok.message, c.in-Ok.ensures.accepted, (step.row, refl), (step.numbers, c.in-Ok-notify.ensures.worked tt), number), step.kept)

pub returns-in-Err-notify : goal.returns-in-Err-notify
returns-in-Err-notify g c = λ h k.
    let ts = c.args.tickets.now in
    let seen = ticket_seen ts c.args.of ∙ ap (option_map values_of) (sym c.in-Some.ensures) in
    unnotified_step h c.args.server.now.source (values_in ts) c.args.of _ _ c.in-Err-notify.error c.notify.new.self.source (values_of c.in-Some.ticket.now) (parts_of c.in-Ok.message) _ _
    seen c.in-Ok.ensures.accepted k c.in-Err-notify.ensures.failed c.in-Err-notify.ensures.worked (λ not. c.in-Err-notify.ensures.answered not h k) c.in-Err-notify.ensures.unchanged.1
