use Rattle.std.proofs.Common.{arith}
use Rattle.osc_aes.proofs.WordRounds.{words_first, words_last, words_more}
use Rattle.osc_aes.proofs.table.cipher.Goals as goal

pub returns : goal.returns
returns c = λ w held.
    let words = c.args.words.now in
    let block = c.args.block.now in
    let rounds_0 = words_first words w block _ held c.first_columns-columns.ensures in
    let rounds_1 = words_more words w block _ _ 0 held (omega arith) rounds_0 c.next_columns-columns.ensures in
    let rounds_2 = words_more words w block _ _ 1 held (omega arith) rounds_1 c.next_columns-columns-2.ensures in
    let rounds_3 = words_more words w block _ _ 2 held (omega arith) rounds_2 c.next_columns-columns-3.ensures in
    let rounds_4 = words_more words w block _ _ 3 held (omega arith) rounds_3 c.next_columns-columns-4.ensures in
    let rounds_5 = words_more words w block _ _ 4 held (omega arith) rounds_4 c.next_columns-columns-5.ensures in
    let rounds_6 = words_more words w block _ _ 5 held (omega arith) rounds_5 c.next_columns-columns-6.ensures in
    let rounds_7 = words_more words w block _ _ 6 held (omega arith) rounds_6 c.next_columns-columns-7.ensures in
    let rounds_8 = words_more words w block _ _ 7 held (omega arith) rounds_7 c.next_columns-columns-8.ensures in
    let rounds_9 = words_more words w block _ _ 8 held (omega arith) rounds_8 c.next_columns-columns-9.ensures in
    words_last words w block _ _ held rounds_9 c.last_columns.ensures
