use Rattle.osc_aes.proofs.PlaneKeys.{next_key}
use Rattle.std.proofs.Common.{arith}
use Rattle.osc_aes.proofs.plane_keys.next_round_key.Goals as goal

pub returns : goal.returns
returns c = λ key long held.
    next_key key c.args.round long (omega arith) c.args.round_key.now c.word_at.result c.word_at-2.result c.word_at-3.result c.word_at-last.result
    c.added_word.result c.xor_word-a.result c.xor_word-b.result c.xor_word-c.result c.xor_word-d.result held
    c.word_at.ensures c.word_at-2.ensures c.word_at-3.ensures c.word_at-last.ensures c.added_word.ensures
    c.xor_word-a.ensures c.xor_word-b.ensures c.xor_word-c.ensures c.xor_word-d.ensures
