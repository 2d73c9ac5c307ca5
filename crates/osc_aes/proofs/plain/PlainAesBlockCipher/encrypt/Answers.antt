use Rattle.std.proofs.Common.{ap, ◌∙◌, List, ℕ, rules}
use Rattle.osc_aes.specs.Aes128.{aes128, cipher}
use Rattle.osc_aes.proofs.plain.PlainAesBlockCipher.encrypt.Goals as goal

pub returns : goal.returns
unfolding aes128
returns c = c.cipher.ensures ∙ ap (λ (w : List ℕ). cipher w c.args.block.now) (search rules)
