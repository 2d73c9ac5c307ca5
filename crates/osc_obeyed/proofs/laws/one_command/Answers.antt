use Rattle.osc_obeyed.proofs.Telling.{one_command}
use Rattle.osc_obeyed.proofs.laws.one_command.Goals as goal

pub returns : goal.returns
returns c = one_command c.both_ends.ensures
