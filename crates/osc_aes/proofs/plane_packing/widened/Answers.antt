use Rattle.osc_aes.proofs.NarrowKeys.{twice_fits, widened_lanes}
use Rattle.osc_aes.proofs.plane_packing.widened.Goals as goal

pub returns : goal.returns
returns c = widened_lanes c.args.words.now c.exchange_pairs.result (twice_fits c.args.words.now c.fits-words) c.exchange_pairs.ensures
