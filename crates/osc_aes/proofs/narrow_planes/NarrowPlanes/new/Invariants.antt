use Rattle.std.proofs.Common.{◌≡◌, ℕ, ◌<◌, [], length, get_or}
use Rattle.osc_aes.specs.Aes128.{expanded_key}
use Rattle.osc_aes.specs.Lanes.{KeepsKey}
use Rattle.osc_aes.proofs.narrow_planes.NarrowPlanes.new.Given as goal

abbrev pub invariant-loop-round : goal.invariant-loop-round
invariant-loop-round l = (length l.keys ≡ 11) × ((r : ℕ) → r < l.round → KeepsKey r (get_or l.keys r []) (expanded_key l.key))
