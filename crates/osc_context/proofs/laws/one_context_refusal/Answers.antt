use Rattle.osc_context.proofs.ContextRefusals.{one_context_refusal}
use Rattle.osc_context.proofs.laws.one_context_refusal.Goals as goal

pub returns : goal.returns
returns c = one_context_refusal
