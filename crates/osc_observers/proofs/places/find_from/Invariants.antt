use Rattle.std.proofs.Common.{◌≡◌, ℕ, ◌≤◌, ◌<◌, Some, false}
use Rattle.std.specs.Prelude.{Option, is_some, map, slice_get}
use Rattle.osc_observers.specs.Views.{place_of}
use Rattle.osc_observers.specs.Watching.{Watching}
use Rattle.osc_observers.proofs.places.find_from.Given as goal

-- each place before, from the first one on, is free
abbrev pub invariant-loop-place : goal.invariant-loop-place
invariant-loop-place l = (i : ℕ) (o : Option Watching) → l.first ≤ i → i < l.place → slice_get (map place_of l.places) i ≡ Some o → is_some o ≡ false
