use Rattle.osc_handle.proofs.PendingPlaces.{Keeping}
use Rattle.osc_handle.proofs.places.keep_alive.Given as goal

abbrev pub invariant-loop-place : goal.invariant-loop-place
invariant-loop-place l = Keeping l.fn.places l.clock l.life_ms l.places l.kept l.place
