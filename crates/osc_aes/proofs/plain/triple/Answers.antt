use Rattle.std.proofs.Common.{arith}
use Rattle.osc_aes.proofs.Entries.{triple-is}
use Rattle.osc_aes.proofs.plain.triple.Goals as goal

pub returns : goal.returns
returns c = rw c.double.ensures (triple-is c.args.element (omega arith))
