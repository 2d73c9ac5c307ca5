use Rattle.std.proofs.Common.{◌∙◌}
use Rattle.osc_command.proofs.LocalCommands.{global_of}
use Rattle.osc_command.proofs.words.option_of.Goals as goal

pub returns : goal.returns
returns c = global_of c.help.ensures ∙ global_of c.long.ensures ∙ c.new.ensures.optional.1
