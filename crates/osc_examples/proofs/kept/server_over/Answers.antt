use Rattle.std.proofs.lemmas.Result.{IfOk-weaker}
use Rattle.osc_examples.proofs.kept.server_over.Goals as goal

-- A server that starts was asked for one context, of some start.
pub returns-clause-begins : goal.returns-clause-begins
returns-clause-begins g c = IfOk-weaker c.start.result _ _ (λ s begun. (begun.2, begun.7)) c.start.ensures.begins
