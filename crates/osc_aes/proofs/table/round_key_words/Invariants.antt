use Rattle.std.proofs.Common.{◌≡◌, length}
use Rattle.osc_aes.specs.Aes128.{expanded_key}
use Rattle.osc_aes.specs.RoundWords.{AreWordsTo}
use Rattle.osc_aes.proofs.table.round_key_words.Given as goal

abbrev pub invariant-loop-round : goal.invariant-loop-round
invariant-loop-round l = (length l.words ≡ 44) × AreWordsTo l.round l.words (expanded_key l.key)
