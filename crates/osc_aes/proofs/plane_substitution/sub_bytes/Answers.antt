use Rattle.osc_aes.proofs.Circuit.{circuit_lane}
use Rattle.osc_aes.proofs.plane_substitution.sub_bytes.Goals as goal

pub returns : goal.returns
returns c = circuit_lane c.args.planes
