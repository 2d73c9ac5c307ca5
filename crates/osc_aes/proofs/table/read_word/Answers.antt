use Rattle.std.proofs.Common.{◌*◌, ap, ◌∙◌, arith}
use Rattle.std.proofs.lemmas.List.{take_rest}
use Rattle.byteorder.specs.Endian.{big_number}
use Rattle.osc_aes.proofs.KeyWords.{read_word-bytes}
use Rattle.osc_aes.proofs.table.read_word.Goals as goal

pub returns : goal.returns
returns c =
    read_word-bytes c.args.bytes.now c.args.index c.read_u32.result (λ k. let fits = c.type_inv.bytes k in omega (arith, fits))
    (c.read_u32.ensures ∙ ap (big_number 4) (take_rest c.args.bytes.now (4 * c.args.index)))
