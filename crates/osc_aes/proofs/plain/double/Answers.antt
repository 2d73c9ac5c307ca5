use Rattle.std.proofs.Common.{arith}
use Rattle.osc_aes.proofs.Entries.{double-is}
use Rattle.osc_aes.proofs.plain.double.Goals as goal

pub returns : goal.returns
returns c = double-is c.args.element (omega arith)
