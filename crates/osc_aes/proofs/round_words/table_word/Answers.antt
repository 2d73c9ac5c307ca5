use Rattle.std.proofs.Common.{arith}
use Rattle.osc_aes.proofs.Entries.{table-entry}
use Rattle.osc_aes.proofs.round_words.table_word.Goals as goal

pub returns : goal.returns
returns c = table-entry c.args.byte (omega arith)
