use Rattle.std.proofs.Common.{◌≡◌, ◌≤◌, [], length, take, drop, vec_len}
use Rattle.osc_endpoint.specs.Agrees.{Agrees}
use Rattle.osc_life.specs.ServerHistory.{History}
use Rattle.osc_endpoint.specs.ServerRun.{Run, values_in}
use Rattle.osc_endpoint.proofs.server_run.run_server_on.Given as goal

abbrev pub invariant-loop-log : goal.invariant-loop-log
invariant-loop-log g l = record {
  within : vec_len l.log ≤ length l.fn.events.now;
  rest_is : l.rest ≡ drop (vec_len l.log) l.fn.events.now;
  run : (h : History) → Agrees l.fn.server h
      → (g : History) × Run h [] (take (vec_len l.log) l.fn.events.now) l.log.items g (values_in l.tickets.items) × Agrees l.server g;
}

abbrev pub decreases-loop-log : goal.decreases-loop-log
decreases-loop-log g l = length l.rest
