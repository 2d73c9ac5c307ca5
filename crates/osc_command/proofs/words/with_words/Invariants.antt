use Rattle.osc_command.specs.Calls.{IsLocal}
use Rattle.osc_command.proofs.words.with_words.Given as goal

abbrev pub invariant-loop-word : goal.invariant-loop-word
invariant-loop-word l = IsLocal l.command
