use Rattle.std.proofs.Common.{arith}
use Rattle.osc_aes.proofs.Entries.{substitution_box-entry}
use Rattle.osc_aes.proofs.substitution_box.substitute_byte.Goals as goal

pub returns : goal.returns
returns c = substitution_box-entry c.args.byte (omega arith)
