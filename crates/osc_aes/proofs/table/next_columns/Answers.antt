use Rattle.osc_aes.specs.Aes128.{mix_columns, shift_rows, state_of, sub_bytes}
use Rattle.osc_aes.specs.RoundWords.{block_of_words}
use Rattle.osc_aes.proofs.WordRounds.{columns_added}
use Rattle.osc_aes.proofs.table.next_columns.Goals as goal

pub returns : goal.returns
returns c =
    columns_added c.args.words.now c.args.round (mix_columns (shift_rows (sub_bytes (state_of (block_of_words c.args.columns))))) _ _ _ _ _ _ _ _
    c.key_word.ensures c.mixed_word.ensures c.key_word-2.ensures c.mixed_word-2.ensures c.key_word-3.ensures c.mixed_word-3.ensures c.key_word-4.ensures c.mixed_word-4.ensures
