use Rattle.std.proofs.Common.{arith}
use Rattle.osc_aes.proofs.Entries.{round_constants-entry}
use Rattle.osc_aes.proofs.key_schedule.round_constant.Goals as goal

pub returns : goal.returns
returns c = round_constants-entry c.args.round (omega arith)
