use Rattle.std.proofs.Common.{◌≡◌, ◌+◌, ◌*◌, length, take}
use Rattle.osc_aes.specs.Aes128.{key_words}
use Rattle.osc_aes.proofs.key_schedule.expand.Given as goal

abbrev pub invariant-loop-n : goal.invariant-loop-n
invariant-loop-n l = (length l.words ≡ 176) × (take (16 + 4 * l.n) l.words ≡ key_words l.key l.n)
