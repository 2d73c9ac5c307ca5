use Rattle.std.proofs.Common.{arith}
use Rattle.osc_aes.proofs.Entries.{row2-substituted}
use Rattle.osc_aes.proofs.round_words.substituted.Goals as goal

pub returns : goal.returns
returns c = row2-substituted _ c.args.byte c.table_word.ensures (omega arith)
