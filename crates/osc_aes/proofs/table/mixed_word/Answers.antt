use Rattle.std.proofs.Common.{ap, ◌∙◌, refl, arith}
use Rattle.osc_aes.specs.RoundWords.{one_row_down}
use Rattle.osc_aes.proofs.Entries.{table-column}
use Rattle.osc_aes.proofs.WordRounds.{bytes-sum, columns-mixed}
use Rattle.osc_aes.proofs.table.mixed_word.Goals as goal

pub returns : goal.returns
returns c =
    let row3 = table-column _ _ _ c.table_word-row3.ensures (omega arith) c.byte0.ensures in
    let rows23 = bytes-sum _ _ _ _ (table-column _ _ _ c.table_word.ensures (omega arith) c.byte1.ensures) (c.one_row_down.ensures ∙ ap one_row_down row3) in
    let rows123 = bytes-sum _ _ _ _ (table-column _ _ _ c.table_word-2.ensures (omega arith) c.byte2.ensures) (c.one_row_down-2.ensures ∙ ap one_row_down rows23) in
    let rows = bytes-sum _ _ _ _ (table-column _ _ _ c.table_word-3.ensures (omega arith) c.byte3.ensures) (c.one_row_down-3.ensures ∙ ap one_row_down rows123) in
    bytes-sum _ c.args.key _ _ (rows ∙ columns-mixed _ _ _ _) refl
