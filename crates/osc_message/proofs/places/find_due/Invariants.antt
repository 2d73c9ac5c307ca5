use Rattle.std.proofs.Common.{◌≡◌, ℕ, ◌<◌, Some}
use Rattle.std.specs.Prelude.{Option, map, slice_get}
use Rattle.osc_message.specs.Finding.{step_at_place}
use Rattle.osc_message.specs.Sending.{Sending}
use Rattle.osc_message.specs.Views.{place_of}
use Rattle.osc_message.specs.declared.exchange.Step.TheVariants.{Rest}
use Rattle.osc_message.proofs.places.find_due.Given as goal

-- nothing is to be done about any message before
abbrev pub invariant-loop-place : goal.invariant-loop-place
invariant-loop-place l = (i : ℕ) (o : Option Sending) → i < l.place → slice_get (map place_of l.places) i ≡ Some o → step_at_place o l.now ≡ Rest
