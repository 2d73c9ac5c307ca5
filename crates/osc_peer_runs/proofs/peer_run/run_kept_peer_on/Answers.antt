use Rattle.std.proofs.Common.{◌≡◌, ◌∙◌, ◌+◌, ◌<◌, ap, sym, List, Option, subst, arith, [], ◌∷◌, ◌++◌, length, take, drop, vec_len}
use Rattle.std.proofs.lemmas.Grind.{common_steps}
use Rattle.std.proofs.lemmas.Bool.{eqb-true}
use Rattle.std.proofs.lemmas.List.{take_at}
use Rattle.std.specs.Option.{option_map}
use Rattle.osc_life.specs.declared.ticket.Ticket.{Ticket}
use Rattle.osc_endpoint.specs.ServerRun.{values_in}
use Rattle.osc_life.specs.ServerHistory.{TicketValues}
use Rattle.osc_life.specs.Views.{values_of}
use Rattle.osc_endpoint.proofs.EventsLeft.{after_is, one_more}
use Rattle.osc_endpoint.proofs.Runs.{values_more}
use Rattle.osc_peer_runs.specs.PeerCalls.{echoes_of}
use Rattle.osc_peer_runs.specs.PeerRuns.{RunStep, peer_state, with_echoes}
use Rattle.osc_peer_runs.proofs.DeliveriesKept.{deliveries_kept, floor_rises}
use Rattle.osc_peer_runs.proofs.PeerRunLemmas.{all_done, run_on, run_same}
use Rattle.osc_peer_runs.proofs.peer_run.run_kept_peer_on.Goals as goal

pub loop-memory-preserved : goal.loop-memory-preserved
loop-memory-preserved g c =
    let xs = c.args.events.now.now in
    let i = vec_len c.loop-memory.log in
    let nonempty : i < length xs = grind (arith, common_steps) in
    let len : vec_len c.push_reserved.new.self ≡ i + 1 = omega (arith, c.push_reserved.ensures.len, c.make_places.ensures.entries.1) in
    record {
      within = omega arith;
      rest_is = after_is xs c.loop-memory.rest.now c.split_at_mut-front.result.1.now i _ c.loop-memory.invariant.rest_is c.split_at_mut-front.ensures.back len;
      run = λ h k b.
          let (mid, m, run, behind) = c.loop-memory.invariant.run h k b in
          let event = c.index-front-0.result in
          let events_are = one_more xs c.loop-memory.rest.now c.split_at_mut-front.result.0.now i (vec_len c.push_reserved.new.self) event c.loop-memory.invariant.rest_is c.split_at_mut-front.ensures.front nonempty c.index-front-0.is len in
          let before = c.make_places.new.tickets in
          let shown : c.deref_mut.result.now ≡ c.loop-memory.tickets.items = c.deref_mut.ensures.value ∙ c.make_places.ensures.tickets.0 in
          let left = c.run_peer_event-entry.new.tickets in
          let put : take before.len (left ++ drop (length left) before.items) ≡ left = take_at left (drop (length left) before.items) before.len (omega (arith, c.run_peer_event-entry.auto.tickets, c.deref_mut.ensures.len)) in
          let ticket = c.run_peer_event-entry.result.1 in
          let tickets_are = ap values_in (c.push_reserved-in-loop-memory.ensures.items ∙ ap (λ z. z ++ ticket ∷ []) put) ∙ values_more left ticket in
          let old = c.loop-memory.peer.source in
          let new = c.run_peer_event-entry.new.peer.source in
          let echoes = echoes_of c.loop-memory.memory in
          let next_echoes = echoes_of c.run_peer_event-entry.new.memory in
          let (after, then, step, next) = c.run_peer_event-entry.ensures mid m behind in
          let placed = subst (λ (ts : List (Option Ticket)). RunStep g.row.N (with_echoes echoes (peer_state mid m old (values_in ts))) event c.run_peer_event-entry.result.0 (with_echoes next_echoes (peer_state after then new (values_in left ++ option_map values_of ticket ∷ [])))) shown step in
          let whole = subst (λ (us : List (Option TicketValues)). RunStep g.row.N (with_echoes echoes (peer_state mid m old (values_in c.loop-memory.tickets.items))) event c.run_peer_event-entry.result.0 (with_echoes next_echoes (peer_state after then new us))) (sym tickets_are) placed in (
            after,
            then,
            run_on g.row.N (peer_state h k c.args.peer.now.source []) (with_echoes echoes (peer_state mid m old (values_in c.loop-memory.tickets.items))) (with_echoes next_echoes (peer_state after then new _)) xs i (vec_len c.push_reserved.new.self) c.loop-memory.log.items c.make_places.new.log.items c.push_reserved.new.self.items event c.run_peer_event-entry.result.0 run
                whole events_are c.push_reserved.ensures.items c.make_places.ensures.entries.0,
            next,
          );
    }

pub returns-in-Err-clause-run : goal.returns-in-Err-clause-run
returns-in-Err-clause-run g c = λ h k b.
    let (after, m, run, behind) = c.loop-memory.invariant.run h k b in
    let us = values_in c.loop-memory.tickets.items in
    let entries = c.make_places.ensures.entries in
    (after, m, us, echoes_of c.loop-memory.memory, run_same g.row.N (peer_state h k c.args.peer.now.source []) (with_echoes (echoes_of c.loop-memory.memory) (peer_state after m c.loop-memory.peer.source us)) c.args.events.now.now (vec_len c.loop-memory.log) (vec_len c.make_places.new.log) c.loop-memory.log.items c.make_places.new.log.items run entries.1 entries.0, behind)

pub returns-clause-run : goal.returns-clause-run
returns-clause-run g c = λ h k b.
    let (after, m, run, behind) = c.loop-memory.invariant.run h k b in
    (after, m, values_in c.loop-memory.tickets.items, echoes_of c.loop-memory.memory, run, behind)

pub returns-clause-all : goal.returns-clause-all
returns-clause-all g c =
    all_done c.args.events.now.now c.loop-memory.rest.now (vec_len c.loop-memory.log) c.loop-memory.invariant.rest_is c.loop-memory.invariant.within
    (eqb-true (length c.loop-memory.rest.now) 0 (sym c.loop-memory-test.ensures))

pub returns-in-Err-clause-kept : goal.returns-in-Err-clause-kept
returns-in-Err-clause-kept g c = deliveries_kept c.args.peer.now c.loop-memory.peer (take (vec_len c.make_places.new.log) c.args.events.now.now) c.make_places.new.log.items (returns-in-Err-clause-run g c)

pub returns-in-Err-clause-rises : goal.returns-in-Err-clause-rises
returns-in-Err-clause-rises g c = floor_rises c.args.peer.now c.loop-memory.peer (take (vec_len c.make_places.new.log) c.args.events.now.now) c.make_places.new.log.items (returns-in-Err-clause-run g c)

pub returns-clause-kept : goal.returns-clause-kept
returns-clause-kept g c = deliveries_kept c.args.peer.now c.loop-memory.peer (take (vec_len c.loop-memory.log) c.args.events.now.now) c.loop-memory.log.items (returns-clause-run g c)

pub returns-clause-rises : goal.returns-clause-rises
returns-clause-rises g c = floor_rises c.args.peer.now c.loop-memory.peer (take (vec_len c.loop-memory.log) c.args.events.now.now) c.loop-memory.log.items (returns-clause-run g c)
