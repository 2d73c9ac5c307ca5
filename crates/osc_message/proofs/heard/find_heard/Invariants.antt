use Rattle.std.proofs.Common.{◌≡◌, ℕ, ◌<◌, Some, false}
use Rattle.std.specs.Prelude.{Option, map, slice_get}
use Rattle.osc_message.specs.Hearing.{Heard, is_same}
use Rattle.osc_message.specs.HearingViews.{seen_of}
use Rattle.osc_message.specs.Slots.{holds}
use Rattle.osc_message.proofs.heard.find_heard.Given as goal

-- no message before passes
abbrev pub invariant-loop-place : goal.invariant-loop-place
invariant-loop-place l = (i : ℕ) (o : Option Heard) → i < l.place → slice_get (map seen_of l.places) i ≡ Some o → holds (is_same l.from l.message_id l.now) o ≡ false
