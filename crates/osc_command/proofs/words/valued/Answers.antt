use Rattle.std.proofs.Common.{◌∙◌}
use Rattle.osc_command.proofs.LocalCommands.{global_of}
use Rattle.osc_command.proofs.words.valued.Goals as goal

pub returns : goal.returns
returns c = global_of c.action.ensures ∙ global_of c.value_name.ensures ∙ c.option_of.ensures
