use Rattle.std.proofs.Common.{◌+◌, arith}
use Rattle.osc_aes.proofs.planes.four_rounds.Goals as goal

pub returns : goal.returns
returns c = λ w block held b few known.
    let n = c.args.done in
    let one = c.round-one.ensures w block n (n + 1) b (omega arith) (omega arith) (held (n + 1) (omega arith)) few known in
    let two = c.round-two.ensures w block (n + 1) (n + 2) b (omega arith) (omega arith) (held (n + 2) (omega arith)) few one in
    let three = c.round-three.ensures w block (n + 2) (n + 3) b (omega arith) (omega arith) (held (n + 3) (omega arith)) few two in
    c.round.ensures w block (n + 3) (n + 4) b (omega arith) (omega arith) (held (n + 4) (omega arith)) few three
