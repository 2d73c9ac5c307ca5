use Rattle.osc_aes.specs.Aes128.{state_of}
use Rattle.osc_aes.proofs.WordRounds.{columns_added}
use Rattle.osc_aes.proofs.table.first_columns.Goals as goal

pub returns : goal.returns
returns c =
    columns_added c.args.words.now 0 (state_of c.args.block.now) _ _ _ _ _ _ _ _
    c.key_word.ensures c.first_word.ensures c.key_word-2.ensures c.first_word-2.ensures c.key_word-3.ensures c.first_word-3.ensures c.key_word-4.ensures c.first_word-4.ensures
