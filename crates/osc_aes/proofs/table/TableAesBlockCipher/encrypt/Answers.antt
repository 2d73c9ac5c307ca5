use Rattle.std.proofs.Common.{arith, ◌∙◌, rules}
use Rattle.osc_aes.specs.Aes128.{aes128, expanded_key}
use Rattle.osc_aes.specs.Views.{key_of_words}
use Rattle.osc_aes.proofs.KeyWords.{flat_map-block}
use Rattle.osc_aes.proofs.table.TableAesBlockCipher.encrypt.Goals as goal

pub returns : goal.returns
unfolding aes128
returns c =
    c.write_u32_into.ensures ∙ flat_map-block c.cipher-columns.result (omega arith)
    ∙ c.cipher-columns.ensures (expanded_key (key_of_words c.args.self.now.words)) (search rules)
