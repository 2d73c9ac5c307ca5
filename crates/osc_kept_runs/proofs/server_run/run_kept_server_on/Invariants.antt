use Rattle.std.proofs.Common.{◌≡◌, ◌≤◌, [], length, take, drop, vec_len}
use Rattle.osc_life.specs.ServerHistory.{History}
use Rattle.osc_endpoint.specs.ServerRun.{values_in}
use Rattle.osc_kept_runs.specs.KeptRuns.{ServerRun, server_state}
use Rattle.osc_kept_ends.specs.KeptServing.{IsKept}
use Rattle.osc_kept_ends.specs.Numbering.{upcoming}
use Rattle.osc_kept_ends.specs.Owning.{own_in}
use Rattle.osc_kept_runs.proofs.server_run.run_kept_server_on.Given as goal

abbrev pub invariant-loop-log : goal.invariant-loop-log
invariant-loop-log g l = record {
  within : vec_len l.log ≤ length l.fn.events.now;
  rest_is : l.rest ≡ drop (vec_len l.log) l.fn.events.now;
  run : (h : History) → IsKept l.fn.server.server (upcoming (own_in l.fn.server.source)) h
      → (after : History)
      × ServerRun (server_state h l.fn.server.source []) (take (vec_len l.log) l.fn.events.now) l.log.items (server_state after l.server.source (values_in l.tickets.items))
      × IsKept l.server.server (upcoming (own_in l.server.source)) after;
}

abbrev pub decreases-loop-log : goal.decreases-loop-log
decreases-loop-log g l = length l.rest
