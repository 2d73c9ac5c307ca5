use Rattle.std.proofs.Common.{◌≡◌, ◌∙◌, ap, sym, subst, arith, refl, List, Option, [], ◌∷◌, ◌++◌, drop, length, take}
use Rattle.std.proofs.lemmas.List.{take_at}
use Rattle.std.specs.Option.{option_map}
use Rattle.osc_endpoint.proofs.Runs.{values_more}
use Rattle.osc_endpoint.specs.ServerRun.{values_in}
use Rattle.osc_life.specs.ServerHistory.{TicketValues}
use Rattle.osc_life.specs.Views.{values_of}
use Rattle.osc_life.specs.declared.ticket.Ticket.{Ticket}
use Rattle.osc_peer_runs.specs.PeerCalls.{echoes_of}
use Rattle.osc_peer_runs.specs.PeerRuns.{RunStep, peer_state, with_echoes}
use Rattle.osc_text.specs.EntryLines.{entry_line}
use Rattle.osc_text.specs.Feeding.RunsEvent.{ran}
use Rattle.osc_text.specs.PeerLog.{peer_entry_text}
use Rattle.osc_text.proofs.peering.KeptPeerEnd.follow.Goals as goal

pub returns : goal.returns
returns g c =
    let event = c.args.event.now in
    let entry = c.run_peer_event-entry.result.0 in
    let ticket = c.run_peer_event-entry.result.1 in
    let left = c.run_peer_event-entry.new.tickets in
    let before = c.reserve.new.self in
    let was = c.args.memory.now.tickets.items in
    let shown : c.deref_mut.result.now ≡ was = c.deref_mut.ensures.value ∙ c.reserve.ensures.items in
    let put : take before.len (left ++ drop (length left) before.items) ≡ left = take_at left (drop (length left) before.items) before.len (omega (arith, c.run_peer_event-entry.auto.tickets, c.deref_mut.ensures.len)) in
    let tickets_are = ap values_in (c.push_reserved.ensures.items ∙ ap (λ z. z ++ ticket ∷ []) put) ∙ values_more left ticket in
    let old = c.args.self.now.source in
    let new = c.run_peer_event-entry.new.peer.source in
    let echoes = echoes_of c.args.memory.now.echoes in
    let next_echoes = echoes_of c.run_peer_event-entry.new.memory in
    ran (entry_line (peer_entry_text entry)) (λ h agrees is.
    let (k, m, step, next) = c.run_peer_event-entry.ensures h.0 h.1 agrees in
    let placed = subst (λ (ts : List (Option Ticket)). RunStep g.row.N (with_echoes echoes (peer_state h.0 h.1 old (values_in ts))) event entry (with_echoes next_echoes (peer_state k m new (values_in left ++ option_map values_of ticket ∷ [])))) shown step in
    let all = subst (λ (us : List (Option TicketValues)). RunStep g.row.N (with_echoes echoes (peer_state h.0 h.1 old (values_in was))) event entry (with_echoes next_echoes (peer_state k m new us))) (sym tickets_are) placed in
    ((k, m), (event, entry, refl, is, all, refl), next)) c.put_entry.ensures
