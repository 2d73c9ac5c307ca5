use Rattle.osc_command.proofs.LocalCommands.{adds_local}
use Rattle.osc_command.proofs.words.with_words.Goals as goal

pub loop-word-preserved : goal.loop-word-preserved
loop-word-preserved c = adds_local _ _ _ c.in_ok-command.ensures c.loop-word.invariant c.in_ok-arg_of.ensures
