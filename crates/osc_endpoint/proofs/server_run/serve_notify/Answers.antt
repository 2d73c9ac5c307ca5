use Rattle.std.proofs.Common.{◌≡◌, ◌∙◌, sym, ap, refl, true}
use Rattle.std.specs.Option.{option_map}
use Rattle.osc_coap.specs.Views.{parts_of}
use Rattle.osc_life.specs.Life.{next_own}
use Rattle.osc_life.specs.ServerHistory.{life}
use Rattle.osc_life.specs.Views.{values_of}
use Rattle.osc_endpoint.proofs.Runs.{number_is, ticket_seen}
use Rattle.osc_endpoint.proofs.server_run.serve_notify.Goals as goal

pub returns-in-Err : goal.returns-in-Err
returns-in-Err g c = λ h a.
    let seen = ticket_seen c.args.tickets.now c.args.of ∙ ap (option_map values_of) (sym c.in-Some.ensures) in
    (h, (values_of c.in-Some.ticket.now, seen, c.in-Err.ensures.refused, refl), a)

pub returns-in-Ok-notify : goal.returns-in-Ok-notify
returns-in-Ok-notify g c = λ h a.
    let seen = ticket_seen c.args.tickets.now c.args.of ∙ ap (option_map values_of) (sym c.in-Some.ensures) in
    let t = values_of c.in-Some.ticket.now in
    let row = c.in-Ok-notify.ensures.answered h a in
    let next : c.next.result ≡ option_map next_own (life h t.context) = c.next.ensures h a ∙ ap (λ i. option_map next_own (life h i)) c.context.ensures in
    let number = number_is h t true row.1.0 c.next.result c.sealed_number-number.result row.1.1.0 (λ yes. row.1.2.1) next c.sealed_number-number.ensures in
    (_, (t, seen, parts_of c.in-Ok.message, c.in-Ok.ensures.accepted, (row, refl), number), c.in-Ok-notify.ensures.follows h a)

pub returns-in-Err-notify : goal.returns-in-Err-notify
returns-in-Err-notify g c = λ h a.
    let seen = ticket_seen c.args.tickets.now c.args.of ∙ ap (option_map values_of) (sym c.in-Some.ensures) in
    (_, (values_of c.in-Some.ticket.now, seen, parts_of c.in-Ok.message, c.in-Ok.ensures.accepted, (c.in-Err-notify.ensures.answered h a, refl)), c.in-Err-notify.ensures.follows h a)
