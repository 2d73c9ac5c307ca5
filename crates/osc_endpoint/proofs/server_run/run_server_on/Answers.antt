use Rattle.std.proofs.Common.{◌≡◌, ◌∙◌, ◌+◌, ◌<◌, ap, List, Option, subst, arith, [], ◌∷◌, ◌++◌, length, take, drop, vec_len}
use Rattle.std.proofs.lemmas.Grind.{common_steps}
use Rattle.std.proofs.lemmas.List.{take_at}
use Rattle.std.specs.Option.{option_map}
use Rattle.osc_life.specs.declared.ticket.Ticket.{Ticket}
use Rattle.osc_endpoint.specs.ServerRun.{values_in}
use Rattle.osc_endpoint.specs.Serving.{Serves}
use Rattle.osc_life.specs.Views.{values_of}
use Rattle.osc_endpoint.proofs.EventsLeft.{after_is, one_more}
use Rattle.osc_endpoint.proofs.RunTickets.{run_takes}
use Rattle.osc_endpoint.proofs.Runs.{run_on}
use Rattle.osc_endpoint.proofs.server_run.run_server_on.Goals as goal

pub loop-log-preserved : goal.loop-log-preserved
loop-log-preserved g c =
    let xs = c.args.events.now.now in
    let i = vec_len c.loop-log.log in
    let nonempty : i < length xs = grind (arith, common_steps) in
    let len : vec_len c.push_reserved.new.self ≡ i + 1 = omega (arith, c.push_reserved.ensures.len, c.make_places.ensures.entries.1) in
    record {
      within = omega arith;
      rest_is = after_is xs c.loop-log.rest.now c.split_at_mut-front.result.1.now i _ c.loop-log.invariant.rest_is c.split_at_mut-front.ensures.back len;
      run = λ h a.
          let (mid, run, agrees) = c.loop-log.invariant.run h a in
          let (g, serves, next) = c.serve_event-entry.ensures mid agrees in
          let event = c.index-front-0.result in
          let events_are = one_more xs c.loop-log.rest.now c.split_at_mut-front.result.0.now i (vec_len c.push_reserved.new.self) event c.loop-log.invariant.rest_is c.split_at_mut-front.ensures.front nonempty c.index-front-0.is len in
          let entries_are = c.push_reserved.ensures.items ∙ ap (λ z. z ++ c.serve_event-entry.result.0 ∷ []) c.make_places.ensures.entries.0 in
          let before = c.make_places.new.tickets in
          let shown : c.deref_mut.result.now ≡ c.loop-log.tickets.items = c.deref_mut.ensures.value ∙ c.make_places.ensures.tickets.0 in
          let put : take before.len (c.serve_event-entry.new.tickets ++ drop (length c.serve_event-entry.new.tickets) before.items) ≡ c.serve_event-entry.new.tickets = take_at c.serve_event-entry.new.tickets (drop (length c.serve_event-entry.new.tickets) before.items) before.len (omega (arith, c.serve_event-entry.auto.tickets, c.deref_mut.ensures.len)) in
          let tickets_are = c.push_reserved-in-loop-log.ensures.items ∙ ap (λ z. z ++ c.serve_event-entry.result.1 ∷ []) put in (
            g,
            run_on h mid g xs i (vec_len c.push_reserved.new.self) c.loop-log.log.items _ event c.serve_event-entry.result.0 c.loop-log.tickets.items c.serve_event-entry.new.tickets _ c.serve_event-entry.result.1 run
                (subst (λ (ts : List (Option Ticket)). Serves mid (values_in ts) event c.serve_event-entry.result.0 (option_map values_of c.serve_event-entry.result.1) g (values_in c.serve_event-entry.new.tickets)) shown serves)
                events_are entries_are tickets_are,
            next,
          );
    }

pub returns-in-Err-clause-tickets : goal.returns-in-Err-clause-tickets
returns-in-Err-clause-tickets g c = λ h g us run takes. run_takes h g us _ _ run takes

pub returns-clause-tickets : goal.returns-clause-tickets
returns-clause-tickets g c = λ h g us run takes. run_takes h g us _ _ run takes
