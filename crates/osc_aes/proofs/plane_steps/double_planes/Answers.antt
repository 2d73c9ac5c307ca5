use Rattle.osc_aes.proofs.LaneBytes.{lane-double}
use Rattle.osc_aes.proofs.plane_steps.double_planes.Goals as goal

pub returns : goal.returns
returns c = λ i lt. lane-double c.args.planes i
