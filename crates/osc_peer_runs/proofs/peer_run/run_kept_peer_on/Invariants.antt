use Rattle.std.proofs.Common.{◌≡◌, ◌≤◌, [], length, take, drop, vec_len}
use Rattle.osc_client.specs.ClientHistory as asked
use Rattle.osc_life.specs.ServerHistory as served
use Rattle.osc_endpoint.specs.ServerRun.{values_in}
use Rattle.osc_peer_runs.specs.PeerCalls.{IsBehind, echoes_of}
use Rattle.osc_peer_runs.specs.PeerRuns.{PeerRun, peer_state, with_echoes}
use Rattle.osc_peer_runs.proofs.peer_run.run_kept_peer_on.Given as goal

abbrev pub invariant-loop-memory : goal.invariant-loop-memory
invariant-loop-memory g l = record {
  within : vec_len l.log ≤ length l.fn.events.now;
  rest_is : l.rest ≡ drop (vec_len l.log) l.fn.events.now;
  run : (h : served.History) (k : asked.History) → IsBehind l.fn.peer h k
      → (after : served.History) × (m : asked.History)
      × PeerRun g.row.N (peer_state h k l.fn.peer.source []) (take (vec_len l.log) l.fn.events.now) l.log.items (with_echoes (echoes_of l.memory) (peer_state after m l.peer.source (values_in l.tickets.items)))
      × IsBehind l.peer after m;
}

abbrev pub decreases-loop-memory : goal.decreases-loop-memory
decreases-loop-memory g l = length l.rest
