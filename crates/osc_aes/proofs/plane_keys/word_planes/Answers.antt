use Rattle.osc_aes.proofs.WordBytes.{word_planes-lane}
use Rattle.osc_aes.proofs.plane_keys.word_planes.Goals as goal

pub returns : goal.returns
returns c = word_planes-lane c.args.word.now c.read_u32-number.result c.fits-word c.read_u32-number.ensures
