use Rattle.std.proofs.Common.{◌≡◌, ℕ, ◌<◌, ◌≤◌, get_or, bit_xor}
use Rattle.osc_ccm.proofs.blocks.xor_front.Given as goal

abbrev pub invariant-loop-k : goal.invariant-loop-k
invariant-loop-k l =
    ((j : ℕ) → j < l.k → get_or l.bytes j 0 ≡ bit_xor (get_or l.initial.bytes j 0) (get_or l.more j 0))
    × ((j : ℕ) → l.k ≤ j → get_or l.bytes j 0 ≡ get_or l.initial.bytes j 0)
