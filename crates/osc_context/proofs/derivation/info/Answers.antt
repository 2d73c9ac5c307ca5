use Rattle.std.proofs.Common.{arith}
use Rattle.std.proofs.lemmas.Grind.{common_steps}
use Rattle.osc_context.specs.Derivation.{info_of}
use Rattle.osc_context.proofs.derivation.info.Goals.{in-Some, in-None}
use Rattle.osc_context.proofs.derivation.info.Goals as goal

pub returns : goal.returns
unfolding info_of
returns c = elim c.match-id_context.branch [
  | in-Some w ↦ grind (arith, common_steps)
  | in-None w ↦ grind (arith, common_steps)
]
