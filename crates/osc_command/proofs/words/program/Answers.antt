use Rattle.std.proofs.Common.{refl}
use Rattle.osc_command.proofs.LocalCommands.{adds_call}
use Rattle.osc_command.proofs.words.program.Goals as goal

pub loop-call-preserved : goal.loop-call-preserved
loop-call-preserved c = adds_call _ _ _ c.in_ok-command.ensures c.loop-call.invariant c.in_ok-call_of.ensures

pub returns-clause-local : goal.returns-clause-local
returns-clause-local c = rw c.subcommand_required.ensures c.loop-call.invariant

pub returns-clause-required : goal.returns-clause-required
returns-clause-required c = rw c.subcommand_required.ensures refl
