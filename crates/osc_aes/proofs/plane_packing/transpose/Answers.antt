use Rattle.std.proofs.Common.{arith}
use Rattle.osc_aes.proofs.PackedBits.{transposed}
use Rattle.osc_aes.proofs.plane_packing.transpose.Goals as goal

pub returns : goal.returns
returns c =
    transposed c.args.words.now (omega arith) c.fits-words c.exchange_pairs.result c.exchange_pairs-2.result c.exchange_pairs-3.result
    c.exchange_pairs.ensures c.exchange_pairs-2.ensures c.exchange_pairs-3.ensures
