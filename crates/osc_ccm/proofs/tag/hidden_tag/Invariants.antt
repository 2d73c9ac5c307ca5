use Rattle.std.proofs.Common.{◌≡◌, ℕ, ◌<◌, get_or, bit_xor, length}
use Rattle.osc_ccm.proofs.tag.hidden_tag.Given as goal

abbrev pub invariant-loop-k : goal.invariant-loop-k
invariant-loop-k l = record {
  long : length l.tag ≡ 8;
  filled : (j : ℕ) → j < l.k → get_or l.tag j 0 ≡ bit_xor (get_or l.state j 0) (get_or l.stream j 0);
}
