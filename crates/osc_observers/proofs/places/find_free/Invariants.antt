use Rattle.std.proofs.Common.{◌≡◌, ℕ, ◌<◌, Some, true}
use Rattle.std.specs.Prelude.{Option, is_some, map, slice_get}
use Rattle.osc_observers.specs.Views.{place_of}
use Rattle.osc_observers.specs.Watching.{Watching}
use Rattle.osc_observers.proofs.places.find_free.Given as goal

-- no place before is free
abbrev pub invariant-loop-place : goal.invariant-loop-place
invariant-loop-place l = (i : ℕ) (o : Option Watching) → i < l.place → slice_get (map place_of l.places) i ≡ Some o → is_some o ≡ true
