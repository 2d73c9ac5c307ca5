-- A run of a peer is a run, step by step.
use Rattle.std.proofs.Common.{ℕ, List, [], ◌∷◌}
use Rattle.osc_context.specs.declared.record_keeper.RecordKeeper as keeper
use Rattle.osc_kept_runs.specs.KeptRuns.{RunOf}
use Rattle.osc_peer_runs.specs.PeerRuns.{PeerRun, PeerState, RunStep}
use Rattle.osc_peer_runs.specs.declared.peer_event.PeerEntry.{PeerEntry}
use Rattle.osc_peer_runs.specs.declared.peer_event.PeerEvent.{PeerEvent}

pub peer_steps : {R : Type 0} {r : keeper.Ghosts R} (n : ℕ) (s t : PeerState r) (events : List PeerEvent) (log : List PeerEntry) → PeerRun n s events log t → RunOf (RunStep n) s events log t
peer_steps n s t [] [] run = run
peer_steps n s t [] (x ∷ log) run = absurd run
peer_steps n s t (e ∷ events) [] run = absurd run
peer_steps n s t (e ∷ events) (x ∷ log) (mid, step, more) = (mid, step, peer_steps n mid t events log more)
