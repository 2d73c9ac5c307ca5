use Rattle.std.proofs.Common.{◌≡◌, arith}
use Rattle.osc_aes.proofs.MovedBits.{turn_0, turn_1, turn_2, turn_3}
use Rattle.osc_aes.proofs.plane_steps.turn_plane.Goals as goal

pub returns-in-0 : goal.returns-in-0
returns-in-0 c = rw c.in-0.is (turn_0 c.args.plane (omega arith))

pub returns-in-1 : goal.returns-in-1
returns-in-1 c = rw c.in-1.is (turn_1 c.args.plane (omega arith))

pub returns-in-2 : goal.returns-in-2
returns-in-2 c = rw c.in-2.is (turn_2 c.args.plane (omega arith))

pub returns-in_default : goal.returns-in_default
returns-in_default c =
    let three : c.args.turned ≡ 3 = omega arith in
    rw three (turn_3 c.args.plane (omega arith))
