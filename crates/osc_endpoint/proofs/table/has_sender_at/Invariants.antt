use Rattle.std.proofs.Common.{◌≡◌, ℕ, ◌<◌, Some, Option}
use Rattle.std.specs.Prelude.{slice_get}
use Rattle.osc_context.specs.Senders.{HaveSameSender}
use Rattle.osc_context.specs.Views.{as_server}
use Rattle.osc_life.specs.Agrees.{HoldsLife}
use Rattle.osc_life.specs.Life.{Life}
use Rattle.osc_life.specs.declared.slot.Slot.{Slot}
use Rattle.osc_endpoint.proofs.table.has_sender_at.Given as goal

abbrev pub invariant-loop-index : goal.invariant-loop-index
invariant-loop-index l = (i : ℕ) (s : Option Slot) (of : Life) → i < l.index → slice_get l.slots i ≡ Some s → HoldsLife s of → HaveSameSender of.context (as_server l.context) → ⊥
