use Rattle.std.proofs.Common.{◌≡◌, ℕ, ◌<◌, Some, false}
use Rattle.std.specs.Prelude.{Option, map, slice_get}
use Rattle.osc_message.specs.Slots.{holds}
use Rattle.osc_observers.specs.Views.{place_of}
use Rattle.osc_observers.specs.Watching.{Watching, is_reset}
use Rattle.osc_observers.proofs.places.find_reset.Given as goal

-- no observer before passes
abbrev pub invariant-loop-place : goal.invariant-loop-place
invariant-loop-place l = (i : ℕ) (o : Option Watching) → i < l.place → slice_get (map place_of l.places) i ≡ Some o → holds (is_reset l.from l.message_id) o ≡ false
