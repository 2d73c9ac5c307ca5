use Rattle.std.proofs.Common.{◌≡◌, ℕ, ◌-◌, ◌^◌, ◌≤◌, ◌<◌, Some}
use Rattle.std.specs.Prelude.{Option, map, slice_get}
use Rattle.osc_message.specs.Finding.{step_at_place}
use Rattle.osc_message.specs.Sending.{Sending}
use Rattle.osc_message.specs.Table.{Rests}
use Rattle.osc_message.specs.Views.{place_of}
use Rattle.osc_message.specs.declared.exchange.Step.TheVariants.{Rest}
use Rattle.osc_message.proofs.places.earliest.Given as goal

-- until then nothing is to be done about any message before, and from then on something is
abbrev pub invariant-loop-place : goal.invariant-loop-place
invariant-loop-place l = record {
  until : (now i : ℕ) (o : Option Sending) → now < l.wake → i < l.place → slice_get (map place_of l.places) i ≡ Some o → step_at_place o now ≡ Rest;
  due : l.wake < 2 ^ 64 - 1 → (now : ℕ) → l.wake ≤ now → Rests (map place_of l.places) now → ⊥;
}
