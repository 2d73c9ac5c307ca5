use Rattle.std.proofs.Common.{◌∙◌}
use Rattle.osc_command.proofs.LocalCommands.{global_of}
use Rattle.osc_command.proofs.words.choice.Goals as goal

pub returns : goal.returns
returns c = global_of c.value_parser.ensures.others ∙ c.valued.ensures
