use Rattle.std.proofs.Common.{arith}
use Rattle.osc_aes.proofs.PackedBits.{gather_moves}
use Rattle.osc_aes.proofs.WordBytes.{word_in-byte}
use Rattle.osc_aes.proofs.plane_keys.word_in.Goals as goal

pub returns : goal.returns
returns c =
    word_in-byte c.args.planes.now c.write_u32.new.buf _ c.write_u32.ensures (gather_moves c.args.planes.now (omega arith) c.fits-planes)
