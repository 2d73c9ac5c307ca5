use Rattle.std.proofs.Common.{◌≡◌, ◌∙◌, ◌+◌, ◌<◌, ap, List, Option, subst, arith, [], ◌∷◌, ◌++◌, length, take, drop, vec_len}
use Rattle.std.proofs.lemmas.Grind.{common_steps}
use Rattle.std.proofs.lemmas.List.{take_at}
use Rattle.std.specs.Option.{option_map}
use Rattle.osc_life.specs.declared.ticket.Ticket.{Ticket}
use Rattle.osc_endpoint.specs.ServerRun.{values_in}
use Rattle.osc_life.specs.Views.{values_of}
use Rattle.osc_endpoint.proofs.EventsLeft.{after_is, one_more}
use Rattle.osc_endpoint.proofs.Runs.{values_more}
use Rattle.osc_kept_runs.specs.KeptRuns.{ServerStep, Serves, server_state}
use Rattle.osc_kept_runs.proofs.KeptRunLemmas.{run_on}
use Rattle.osc_kept_runs.proofs.server_run.run_kept_server_on.Goals as goal

pub loop-log-preserved : goal.loop-log-preserved
loop-log-preserved g c =
    let xs = c.args.events.now.now in
    let i = vec_len c.loop-log.log in
    let nonempty : i < length xs = grind (arith, common_steps) in
    let len : vec_len c.push_reserved.new.self ≡ i + 1 = omega (arith, c.push_reserved.ensures.len, c.make_places.ensures.entries.1) in
    record {
      within = omega arith;
      rest_is = after_is xs c.loop-log.rest.now c.split_at_mut-front.result.1.now i _ c.loop-log.invariant.rest_is c.split_at_mut-front.ensures.back len;
      run = λ h k.
          let (mid, run, kept) = c.loop-log.invariant.run h k in
          let (after, serves, next) = c.serve_kept_event-entry.ensures mid kept in
          let event = c.index-front-0.result in
          let events_are = one_more xs c.loop-log.rest.now c.split_at_mut-front.result.0.now i (vec_len c.push_reserved.new.self) event c.loop-log.invariant.rest_is c.split_at_mut-front.ensures.front nonempty c.index-front-0.is len in
          let before = c.make_places.new.tickets in
          let shown : c.deref_mut.result.now ≡ c.loop-log.tickets.items = c.deref_mut.ensures.value ∙ c.make_places.ensures.tickets.0 in
          let put : take before.len (c.serve_kept_event-entry.new.tickets ++ drop (length c.serve_kept_event-entry.new.tickets) before.items) ≡ c.serve_kept_event-entry.new.tickets = take_at c.serve_kept_event-entry.new.tickets (drop (length c.serve_kept_event-entry.new.tickets) before.items) before.len (omega (arith, c.serve_kept_event-entry.auto.tickets, c.deref_mut.ensures.len)) in
          let tickets_are = c.push_reserved-in-loop-log.ensures.items ∙ ap (λ z. z ++ c.serve_kept_event-entry.result.1 ∷ []) put in
          let old = c.loop-log.server.source in
          let new = c.serve_kept_event-entry.new.server.source in
          let us = values_in c.serve_kept_event-entry.new.tickets in
          let o = option_map values_of c.serve_kept_event-entry.result.1 in
          let step = subst (λ (ts : List (Option Ticket)). Serves (server_state mid old (values_in ts)) event c.serve_kept_event-entry.result.0 after new us o) shown serves in (
            after,
            run_on ServerStep (server_state h c.args.server.now.source []) (server_state mid old (values_in c.loop-log.tickets.items)) (server_state after new _) xs i (vec_len c.push_reserved.new.self) c.loop-log.log.items c.make_places.new.log.items c.push_reserved.new.self.items event c.serve_kept_event-entry.result.0 run
                (us, o, step, ap values_in tickets_are ∙ values_more c.serve_kept_event-entry.new.tickets c.serve_kept_event-entry.result.1) events_are c.push_reserved.ensures.items c.make_places.ensures.entries.0,
            next,
          );
    }
