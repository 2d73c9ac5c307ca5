use Rattle.std.proofs.Common.{◌≡◌, ◌<◌, ◌^◌, ℕ, ◌∙◌, sym, ap, subst, refl, true, slice_set, Some, None}
use Rattle.std.specs.Prelude.{if◌then◌else◌}
use Rattle.std.specs.Option.{option_map}
use Rattle.osc_coap.specs.Views.{parts_of}
use Rattle.osc_context.specs.Views.{number_of}
use Rattle.osc_life.specs.Life.{next_own}
use Rattle.osc_life.specs.LifeAnswer.{asks_own}
use Rattle.osc_life.specs.ServerHistory.{life}
use Rattle.osc_life.specs.Views.{values_of}
use Rattle.osc_endpoint.specs.ServerRun.{values_in}
use Rattle.osc_endpoint.proofs.Runs.{no_ticket, number_is, put_again, ticket_seen, values_taken}
use Rattle.osc_endpoint.proofs.server_run.serve_reply.Goals as goal

pub returns-in_default : goal.returns-in_default
returns-in_default g c = λ h a. no_ticket h c.args.server.now c.args.tickets.now c.take_out.new.tickets c.args.of a (sym c.in_default.is ∙ c.take_out.ensures.ticket) c.take_out.ensures.rest

pub returns-in-Err : goal.returns-in-Err
returns-in-Err g c = λ h a.
    let ts = c.args.tickets.now in
    let seen = ticket_seen ts c.args.of ∙ ap (option_map values_of) (sym c.in-Some.ensures.ticket) in
    (h, (values_of c.in-Some.ticket, seen, c.in-Err.ensures.refused, refl, ap values_in (c.put_back.ensures ∙ ap (λ xs. slice_set xs c.args.of (Some c.in-Some.ticket)) c.take_out.ensures.rest ∙ put_again ts c.args.of c.in-Some.ticket c.in-Some.ensures.ticket)), a)

pub returns-in-Ok-reply : goal.returns-in-Ok-reply
returns-in-Ok-reply g c = λ h a.
    let ts = c.args.tickets.now in
    let seen = ticket_seen ts c.args.of ∙ ap (option_map values_of) (sym c.in-Some.ensures.ticket) in
    let t = values_of c.in-Some.ticket in
    let row = c.in-Ok-reply.ensures.answered h a in
    let next : c.next.result ≡ option_map next_own (life h t.context) = c.next.ensures h a ∙ ap (λ i. option_map next_own (life h i)) c.context.ensures in
    let number = number_is h t (asks_own t c.args.own) row.0 c.next.result c.sealed_number-number.result row.1.0 row.2.0 next
    (subst (λ own. (n : ℕ) → c.next.result ≡ Some n → (own ≡ true → n < 2 ^ 40) → option_map number_of c.sealed_number-number.result ≡ (if own then Some n else None)) c.asks_own.ensures c.sealed_number-number.ensures) in
    (_, (t, seen, parts_of c.in-Ok.message, c.in-Ok.ensures.accepted, (row, refl), ap values_in c.take_out.ensures.rest ∙ values_taken ts c.args.of, number), c.in-Ok-reply.ensures.follows h a)

pub returns-in-Err-reply : goal.returns-in-Err-reply
returns-in-Err-reply g c = λ h a.
    let ts = c.args.tickets.now in
    let seen = ticket_seen ts c.args.of ∙ ap (option_map values_of) (sym c.in-Some.ensures.ticket) in
    let back = c.put_back-in-Err-reply.ensures ∙ ap (λ x. slice_set c.take_out.new.tickets c.args.of (Some x)) c.in-Err-reply.ensures.back ∙ ap (λ xs. slice_set xs c.args.of (Some c.in-Some.ticket)) c.take_out.ensures.rest ∙ put_again ts c.args.of c.in-Some.ticket c.in-Some.ensures.ticket in
    (_, (values_of c.in-Some.ticket, seen, parts_of c.in-Ok.message, c.in-Ok.ensures.accepted, (c.in-Err-reply.ensures.answered h a, refl), ap values_in back), c.in-Err-reply.ensures.follows h a)
