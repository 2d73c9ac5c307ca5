use Rattle.osc_command.specs.Calls.{IsLocal}
use Rattle.osc_command.proofs.words.program.Given as goal

abbrev pub invariant-loop-call : goal.invariant-loop-call
invariant-loop-call l = IsLocal l.command
