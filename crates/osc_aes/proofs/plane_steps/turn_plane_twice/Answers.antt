use Rattle.std.proofs.Common.{arith}
use Rattle.osc_aes.proofs.MovedBits.{far_even, far_odd}
use Rattle.osc_aes.proofs.plane_steps.turn_plane_twice.Goals as goal

pub returns-then-turned-eq0 : goal.returns-then-turned-eq0
returns-then-turned-eq0 c = far_even c.args.turned (omega arith) c.if-turned-eq0.true c.args.plane (omega arith)

pub returns-else-turned-eq0 : goal.returns-else-turned-eq0
returns-else-turned-eq0 c = far_odd c.args.turned (omega arith) (omega arith) c.args.plane (omega arith)
