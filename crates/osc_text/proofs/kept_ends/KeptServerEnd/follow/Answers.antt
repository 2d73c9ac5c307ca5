use Rattle.std.proofs.Common.{◌≡◌, ◌∙◌, ap, subst, arith, refl, List, Option, [], ◌∷◌, ◌++◌, drop, length, take}
use Rattle.std.proofs.lemmas.List.{take_at}
use Rattle.std.specs.Option.{option_map}
use Rattle.osc_endpoint.proofs.Runs.{values_more}
use Rattle.osc_endpoint.specs.ServerRun.{values_in}
use Rattle.osc_kept_runs.specs.KeptRuns.{Serves, server_state}
use Rattle.osc_life.specs.Views.{values_of}
use Rattle.osc_life.specs.declared.ticket.Ticket.{Ticket}
use Rattle.osc_text.specs.EntryLines.{entry_line}
use Rattle.osc_text.specs.Feeding.RunsEvent.{ran}
use Rattle.osc_text.specs.KeptLog.{kept_text}
use Rattle.osc_text.proofs.kept_ends.KeptServerEnd.follow.Goals as goal

pub returns : goal.returns
returns g c =
    let event = c.args.event.now in
    let entry = c.serve_kept_event-entry.result.0 in
    let ticket = c.serve_kept_event-entry.result.1 in
    let left = c.serve_kept_event-entry.new.tickets in
    let before = c.reserve.new.self in
    let shown : c.deref_mut.result.now ≡ c.args.memory.now.items = c.deref_mut.ensures.value ∙ c.reserve.ensures.items in
    let put : take before.len (left ++ drop (length left) before.items) ≡ left = take_at left (drop (length left) before.items) before.len (omega (arith, c.serve_kept_event-entry.auto.tickets, c.deref_mut.ensures.len)) in
    let tickets_are = ap values_in (c.push_reserved.ensures.items ∙ ap (λ z. z ++ ticket ∷ []) put) ∙ values_more left ticket in
    let o = option_map values_of ticket in
    ran (entry_line (kept_text entry)) (λ h agrees is.
    let (k, serves, next) = c.serve_kept_event-entry.ensures h agrees in
    let there = subst (λ (ts : List (Option Ticket)). Serves (server_state h c.args.self.now.source (values_in ts)) event entry k c.serve_kept_event-entry.new.server.source (values_in left) o) shown serves in
    (k, (event, entry, refl, is, (values_in left, o, there, tickets_are), refl), next)) c.put_entry.ensures
