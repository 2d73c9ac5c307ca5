use Rattle.std.proofs.Common.{◌≡◌, ℕ, ◌<◌, [], length, get_or}
use Rattle.osc_aes.specs.Aes128.{expanded_key}
use Rattle.osc_aes.specs.Lanes.{IsKeyOf}
use Rattle.osc_aes.specs.Views.{key_of_narrow}
use Rattle.osc_aes.proofs.narrow_planes.NarrowPlanes.widened.Given as goal

abbrev pub invariant-loop-round : goal.invariant-loop-round
invariant-loop-round l = (length l.keys ≡ 11) × ((r : ℕ) → r < l.round → IsKeyOf r (get_or l.keys r []) (expanded_key (key_of_narrow l.self.keys)))
