use Rattle.std.proofs.Common.{◌≡◌, ◌≤◌, length, take, drop, vec_len}
use Rattle.osc_client.specs.ClientHistory.{History}
use Rattle.osc_kept_ends.specs.KeptAsking.{IsKept}
use Rattle.osc_kept_runs.specs.KeptRuns.{ClientRun, client_state}
use Rattle.osc_kept_ends.specs.Numbering.{upcoming}
use Rattle.osc_kept_ends.specs.Owning.{own_in}
use Rattle.osc_kept_runs.proofs.client_run.run_kept_client_on.Given as goal

abbrev pub invariant-loop-log : goal.invariant-loop-log
invariant-loop-log g l = record {
  within : vec_len l.log ≤ length l.fn.events.now;
  rest_is : l.rest ≡ drop (vec_len l.log) l.fn.events.now;
  run : (h : History) → IsKept l.fn.client.client (upcoming (own_in l.fn.client.source)) h
      → (after : History)
      × ClientRun g.row.N (client_state h l.fn.client.source) (take (vec_len l.log) l.fn.events.now) l.log.items (client_state after l.client.source)
      × IsKept l.client.client (upcoming (own_in l.client.source)) after;
}

abbrev pub decreases-loop-log : goal.decreases-loop-log
decreases-loop-log g l = length l.rest
