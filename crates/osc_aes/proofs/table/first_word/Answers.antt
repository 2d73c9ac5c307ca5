use Rattle.std.proofs.Common.{List, ℕ, ap, ◌∙◌, w32}
use Rattle.std.specs.Int.{to_be_bytes}
use Rattle.osc_aes.specs.Aes128.{xor_word}
use Rattle.osc_aes.proofs.WordRounds.{to_be_bytes-xor}
use Rattle.osc_aes.proofs.table.first_word.Goals as goal

pub returns : goal.returns
returns c =
    to_be_bytes-xor c.read_word.result c.args.key ∙ ap (λ (u : List ℕ). xor_word u (to_be_bytes w32 c.args.key)) c.read_word.ensures
