use Rattle.std.proofs.Common.{◌≡◌, ℕ, ◌<◌, ◌≤◌, get_or, length}
use Rattle.osc_hkdf.proofs.mac.filled.Given as goal

abbrev pub invariant-loop-i : goal.invariant-loop-i
invariant-loop-i l = record {
  long : length l.block ≡ 64;
  taken : (j : ℕ) → j < l.i → get_or l.block j 0 ≡ get_or l.bytes j 0;
  clear : (j : ℕ) → l.i ≤ j → get_or l.block j 0 ≡ 0;
}
