use Rattle.std.proofs.Common.{◌≡◌, ℕ, ◌<◌, get_or}
use Rattle.osc_context.proofs.same_key.is_same_key.Given as goal

abbrev pub invariant-loop-k : goal.invariant-loop-k
invariant-loop-k l = record {
  equal : l.differences ≡ 0 → (j : ℕ) → j < l.k → get_or l.key j 0 ≡ get_or l.other j 0;
  none : ((j : ℕ) → j < l.k → get_or l.key j 0 ≡ get_or l.other j 0) → l.differences ≡ 0;
}
