use Rattle.std.proofs.Common.{◌≡◌, ℕ, ◌<◌, Some}
use Rattle.std.specs.Prelude.{map, slice_get}
use Rattle.osc_client.specs.ClientHistory.{Asked}
use Rattle.osc_client.specs.Views.{asked_of}
use Rattle.osc_client.proofs.pending.find_request.Given as goal

abbrev pub invariant-loop-place : goal.invariant-loop-place
invariant-loop-place l = (i : ℕ) (r : Asked) → i < l.place → slice_get (map asked_of l.pending) i ≡ Some r → r.token ≡ l.token → ⊥
