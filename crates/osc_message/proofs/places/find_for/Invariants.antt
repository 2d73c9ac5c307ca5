use Rattle.std.proofs.Common.{◌≡◌, ℕ, ◌<◌, Some, false}
use Rattle.std.specs.Prelude.{Option, map, slice_get}
use Rattle.osc_message.specs.Slots.{holds}
use Rattle.osc_message.specs.Sending.{Sending, is_for}
use Rattle.osc_message.specs.Views.{place_of}
use Rattle.osc_message.proofs.places.find_for.Given as goal

-- no message before passes
abbrev pub invariant-loop-place : goal.invariant-loop-place
invariant-loop-place l = (i : ℕ) (o : Option Sending) → i < l.place → slice_get (map place_of l.places) i ≡ Some o → holds (is_for l.from l.message_id) o ≡ false
