use Rattle.std.proofs.Common.{arith}
use Rattle.osc_aes.proofs.PackedBits.{turned_back}
use Rattle.osc_aes.proofs.plane_packing.turn_back.Goals as goal

pub returns : goal.returns
returns c = turned_back c.args.words.now (omega arith) c.fits-words c.exchange_pairs.result c.exchange_pairs.ensures
