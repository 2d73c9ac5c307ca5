use Rattle.osc_aes.proofs.LaneBytes.{lane-added}
use Rattle.osc_aes.proofs.plane_steps.add_planes.Goals as goal

pub returns : goal.returns
returns c = λ i lt. lane-added c.args.left c.args.right i
