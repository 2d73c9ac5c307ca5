use Rattle.std.proofs.Common.{◌≡◌, ℕ, ◌<◌, ◌/◌, ◌%◌, get_or, length}
use Rattle.osc_aes.specs.Aes128.{state_of, add_round_key}
use Rattle.osc_aes.proofs.plain.add_round_key.Given as goal

abbrev pub invariant-loop-k : goal.invariant-loop-k
invariant-loop-k l = (length l.out ≡ 16) × ((m : ℕ) → m < l.k → get_or l.out m 0 ≡ add_round_key l.words l.round (state_of l.block) (m % 4) (m / 4))
