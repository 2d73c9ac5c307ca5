use Rattle.std.proofs.Common.{arith}
use Rattle.osc_aes.proofs.NarrowKeys.{narrowed_lanes}
use Rattle.osc_aes.proofs.plane_packing.narrowed.Goals as goal

pub returns : goal.returns
returns c = narrowed_lanes c.args.planes.now c.exchange_pairs.result (omega arith) c.fits-planes c.exchange_pairs.ensures
