use Rattle.std.proofs.Common.{◌≡◌, ℕ, ◌<◌, Some, Option}
use Rattle.std.specs.Prelude.{slice_get}
use Rattle.osc_protect.specs.Views.{shown}
use Rattle.osc_life.specs.declared.slot.Slot.{Slot}
use Rattle.osc_life.specs.Judging.{LooksUp}
use Rattle.osc_endpoint.proofs.table.find.Given as goal

abbrev pub invariant-loop-index : goal.invariant-loop-index
invariant-loop-index l = (i : ℕ) (s : Option Slot) → i < l.index → slice_get l.slots i ≡ Some s → LooksUp s l.kid (shown l.kid_context) → ⊥
