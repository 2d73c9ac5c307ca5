use Rattle.std.proofs.Common.{arith, length, ap, ◌∙◌}
use Rattle.osc_aes.proofs.KeyWords.{key_of_words-expanded, words_of_own_key}
use Rattle.osc_aes.proofs.table.TableAes.new.Goals as goal

pub invariant_of-result : goal.invariant_of-result
invariant_of-result c =
    let words = c.round_key_words.result in
    record {
      expanded = words_of_own_key words c.args.key.now (omega arith) c.round_key_words.ensures;
      key_len = ap length (key_of_words-expanded words c.args.key.now (omega arith) c.round_key_words.ensures) ∙ omega arith;
    }

pub returns : goal.returns
returns c = key_of_words-expanded c.round_key_words.result c.args.key.now (omega arith) c.round_key_words.ensures
