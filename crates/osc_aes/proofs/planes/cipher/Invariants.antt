use Rattle.std.proofs.Common.{◌≡◌, ℕ, ◌*◌, ◌<◌, List}
use Rattle.osc_aes.specs.Aes128.{after_rounds}
use Rattle.osc_aes.specs.Lanes.{AreKeysOf, block_in}
use Rattle.osc_aes.proofs.planes.cipher.Given as goal

abbrev pub invariant-loop-four : goal.invariant-loop-four
invariant-loop-four l =
    (w : List ℕ) → AreKeysOf l.keys w → (b : ℕ) → b < 2
    → block_in (4 * l.four) l.state b ≡ after_rounds w (block_in 0 l.fn.planes b) (4 * l.four)
