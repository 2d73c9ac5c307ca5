use Rattle.std.proofs.Common.{◌≡◌, ℕ, ◌<◌, ◌/◌, ◌%◌, get_or, length}
use Rattle.osc_aes.specs.Aes128.{state_of, mix_columns}
use Rattle.osc_aes.proofs.plain.mix_columns.Given as goal

abbrev pub invariant-loop-k : goal.invariant-loop-k
invariant-loop-k l = (length l.out ≡ 16) × ((m : ℕ) → m < l.k → get_or l.out m 0 ≡ mix_columns (state_of l.block) (m % 4) (m / 4))
