use Rattle.std.proofs.Common.{◌≡◌, ℕ, ◌<◌, Some}
use Rattle.std.specs.Prelude.{map, slice_get}
use Rattle.osc_client.specs.ClientHistory.{Asked}
use Rattle.osc_handle.specs.PendingBytes.{asked_at}
use Rattle.osc_handle.proofs.places.place_of.Given as goal

abbrev pub invariant-loop-place : goal.invariant-loop-place
invariant-loop-place l = (i : ℕ) (r : Asked) → i < l.place → slice_get (map asked_at l.requests) i ≡ Some r → r.token ≡ l.token → ⊥
