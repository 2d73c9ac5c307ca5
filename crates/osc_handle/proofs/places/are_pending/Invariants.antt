use Rattle.std.proofs.Common.{◌≡◌, ◌<◌, ℕ, Some, map, take}
use Rattle.std.specs.Prelude.{slice_get}
use Rattle.osc_client.specs.Agrees.{TokensDiffer}
use Rattle.osc_handle.specs.PendingBytes.{IsPending, asked_at}
use Rattle.osc_handle.specs.declared.pending_handle.PendingHandle.{PendingHandle}
use Rattle.osc_handle.proofs.places.are_pending.Given as goal

abbrev pub invariant-loop-index : goal.invariant-loop-index
invariant-loop-index l =
    TokensDiffer (map asked_at (take l.index l.places))
    × ((i : ℕ) (b : PendingHandle) → i < l.index → slice_get l.places i ≡ Some b → IsPending b)
