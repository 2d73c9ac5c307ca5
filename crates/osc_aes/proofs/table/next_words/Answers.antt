use Rattle.std.proofs.Common.{arith, ◌+◌}
use Rattle.osc_aes.specs.Aes128.{expanded_key}
use Rattle.osc_aes.proofs.RoundKeys.{first_sum, four_words, further_sum, held_word}
use Rattle.osc_aes.proofs.table.next_words.Goals as goal

pub returns : goal.returns
returns c = λ key long held.
    let i = c.args.round in
    let words = c.args.words.now in
    let w = expanded_key key in
    let old0 = held_word words w i 0 c.key_word.result held (omega arith) (omega arith) c.key_word.ensures in
    let old1 = held_word words w i 1 c.key_word-2.result held (omega arith) (omega arith) c.key_word-2.ensures in
    let old2 = held_word words w i 2 c.key_word-3.result held (omega arith) (omega arith) c.key_word-3.ensures in
    let old3 = held_word words w i 3 c.key_word-last.result held (omega arith) (omega arith) c.key_word-last.ensures in
    let new0 = first_sum key i long c.requires _ _ _ old0 old3 c.added_word.ensures in
    let new1 = further_sum key i long c.requires 0 _ _ (omega arith) old1 new0 in
    let new2 = further_sum key i long c.requires 1 _ _ (omega arith) old2 new1 in
    let new3 = further_sum key i long c.requires 2 _ _ (omega arith) old3 new2 in
    four_words w (i + 1) _ _ _ _ new0 new1 new2 new3
