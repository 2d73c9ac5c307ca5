use Rattle.std.proofs.Common.{◌≡◌, ℕ, ◌-◌, ◌^◌, ◌≤◌, ◌<◌, Some, false}
use Rattle.std.specs.Prelude.{Option, map, slice_get}
use Rattle.osc_message.specs.Hearing.{Heard, is_due}
use Rattle.osc_message.specs.HearingViews.{seen_of}
use Rattle.osc_message.specs.Slots.{NonePasses, holds}
use Rattle.osc_message.proofs.heard.earliest_due.Given as goal

-- until then no ACK of a message before is due, and from then on one is
abbrev pub invariant-loop-place : goal.invariant-loop-place
invariant-loop-place l = record {
  until : (now i : ℕ) (o : Option Heard) → now < l.wake → i < l.place → slice_get (map seen_of l.places) i ≡ Some o → holds (is_due now) o ≡ false;
  due : l.wake < 2 ^ 64 - 1 → (now : ℕ) → l.wake ≤ now → NonePasses (is_due now) (map seen_of l.places) → ⊥;
}
