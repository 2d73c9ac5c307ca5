use Rattle.std.proofs.Common.{◌≡◌, ℕ, ◌<◌, Some, true}
use Rattle.std.specs.Prelude.{Option, is_some, map, slice_get}
use Rattle.osc_message.specs.Hearing.{Heard}
use Rattle.osc_message.specs.HearingViews.{seen_of}
use Rattle.osc_message.proofs.heard.find_free_place.Given as goal

-- no place before is free
abbrev pub invariant-loop-place : goal.invariant-loop-place
invariant-loop-place l = (i : ℕ) (o : Option Heard) → i < l.place → slice_get (map seen_of l.places) i ≡ Some o → is_some o ≡ true
