use Rattle.std.proofs.Common.{◌≡◌, ◌∙◌, ap, sym, subst, arith, List, Option, [], ◌∷◌, ◌++◌, drop, length, take}
use Rattle.std.proofs.lemmas.List.{take_at}
use Rattle.std.specs.Option.{option_map}
use Rattle.osc_endpoint.proofs.Runs.{step_more, values_more}
use Rattle.osc_endpoint.specs.ServerRun.{values_in}
use Rattle.osc_endpoint.specs.Serving.{Serves}
use Rattle.osc_life.specs.ServerHistory.{TicketValues}
use Rattle.osc_life.specs.Views.{values_of}
use Rattle.osc_life.specs.declared.ticket.Ticket.{Ticket}
use Rattle.osc_text.proofs.ServerSteps.{step_is}
use Rattle.osc_text.specs.Feeding.RunsEvent.{ran}
use Rattle.osc_text.specs.ServerLog.{log_line}
use Rattle.osc_text.specs.Serving.{EventLine}
use Rattle.osc_text.specs.ServedReading.{event_seen}
use Rattle.osc_text.proofs.serving.follow_event.Goals as goal

pub returns : goal.returns
returns g c =
    let entry = c.serve_event-entry.result.0 in
    let ticket = c.serve_event-entry.result.1 in
    let left = c.serve_event-entry.new.tickets in
    let before = c.reserve.new.self in
    let shown : c.deref_mut.result.now ≡ c.args.memory.now.items = c.deref_mut.ensures.value ∙ c.reserve.ensures.items in
    let put : take before.len (left ++ drop (length left) before.items) ≡ left = take_at left (drop (length left) before.items) before.len (omega (arith, c.serve_event-entry.auto.tickets, c.deref_mut.ensures.len)) in
    let tickets_are = ap values_in (c.push_reserved.ensures.items ∙ ap (λ z. z ++ ticket ∷ []) put) ∙ values_more left ticket in
    ran (log_line entry) (λ h agrees is.
    let (k, serves, next) = c.serve_event-entry.ensures h agrees in
    let there = subst (λ (ts : List (Option Ticket)). Serves h (values_in ts) c.args.event.now entry (option_map values_of ticket) k (values_in left)) shown serves in
    let step = step_more h k (values_in c.args.memory.now.items) (values_in left) c.args.event.now entry (option_map values_of ticket) there in
    let line = step_is h k (values_in c.args.memory.now.items) (values_in left ++ option_map values_of ticket ∷ []) c.args.event.now entry is step in
    (k, subst (λ (us : List (Option TicketValues)). EventLine h (values_in c.args.memory.now.items) (event_seen c.args.event.now) (log_line entry) k us) (sym tickets_are) line, next)) c.put_entry.ensures
