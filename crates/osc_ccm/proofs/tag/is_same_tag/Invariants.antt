use Rattle.std.proofs.Common.{◌≡◌, ℕ, ◌<◌, get_or}
use Rattle.osc_ccm.proofs.tag.is_same_tag.Given as goal

abbrev pub invariant-loop-k : goal.invariant-loop-k
invariant-loop-k l = record {
  equal : l.differences ≡ 0 → (j : ℕ) → j < l.k → get_or l.tag j 0 ≡ get_or l.received j 0;
  none : ((j : ℕ) → j < l.k → get_or l.tag j 0 ≡ get_or l.received j 0) → l.differences ≡ 0;
}
