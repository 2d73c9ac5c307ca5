use Rattle.std.proofs.Common.{◌≡◌, ◌≤◌, length, take, drop, vec_len}
use Rattle.osc_client.specs.Agrees.{ClientAgrees}
use Rattle.osc_client.specs.ClientHistory.{History}
use Rattle.osc_endpoint.specs.ClientRun.{Run}
use Rattle.osc_endpoint.proofs.client_run.run_client_on.Given as goal

abbrev pub invariant-loop-log : goal.invariant-loop-log
invariant-loop-log g l = record {
  within : vec_len l.log ≤ length l.fn.events.now;
  rest_is : l.rest ≡ drop (vec_len l.log) l.fn.events.now;
  run : (h : History) → ClientAgrees l.fn.client h
      → (after : History) × Run g.row.N h (take (vec_len l.log) l.fn.events.now) l.log.items after × ClientAgrees l.client after;
}

abbrev pub decreases-loop-log : goal.decreases-loop-log
decreases-loop-log g l = length l.rest
