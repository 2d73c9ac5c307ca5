use Rattle.std.proofs.Common.{◌≡◌, ◌+◌, ◌<◌, arith, length, vec_len}
use Rattle.std.proofs.lemmas.Grind.{common_steps}
use Rattle.osc_endpoint.proofs.ClientRuns.{client_run_on}
use Rattle.osc_endpoint.proofs.EventsLeft.{one_more, after_is}
use Rattle.osc_endpoint.proofs.client_run.run_client_on.Goals as goal

pub loop-log-preserved : goal.loop-log-preserved
loop-log-preserved g c =
    let xs = c.args.events.now.now in
    let i = vec_len c.loop-log.log in
    let nonempty : i < length xs = grind (arith, common_steps) in
    let len : vec_len c.push_reserved.new.self ≡ i + 1 = omega (arith, c.push_reserved.ensures.len, c.reserve.ensures.len) in
    let event = c.index-front-0.result in
    let left = c.loop-log.invariant.rest_is in
    let events_are = one_more xs c.loop-log.rest.now c.split_at_mut-front.result.0.now i (vec_len c.push_reserved.new.self) event left c.split_at_mut-front.ensures.front nonempty c.index-front-0.is len in
    record {
      within = omega arith;
      rest_is = after_is xs c.loop-log.rest.now c.split_at_mut-front.result.1.now i _ left c.split_at_mut-front.ensures.back len;
      run = λ h a.
          let (mid, run, agrees) = c.loop-log.invariant.run h a in
          let (after, step, next) = c.ask_event-entry.ensures mid agrees in
          (after, client_run_on g.row.N h mid after xs i (vec_len c.push_reserved.new.self) c.loop-log.log.items _ _ event c.ask_event-entry.result run step events_are c.push_reserved.ensures.items c.reserve.ensures.items, next);
    }
