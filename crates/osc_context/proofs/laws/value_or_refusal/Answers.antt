use Rattle.osc_context.proofs.FirstRefusals.{never_refused, one_refusal}
use Rattle.osc_context.proofs.Decided.{value_or_refusal}
use Rattle.osc_context.proofs.laws.value_or_refusal.Goals as goal

pub returns-clause-one : goal.returns-clause-one
returns-clause-one c = value_or_refusal

pub returns-clause-never_both : goal.returns-clause-never_both
returns-clause-never_both c = λ p bytes e v. never_refused p bytes v e

pub returns-clause-one_refusal : goal.returns-clause-one_refusal
returns-clause-one_refusal c = one_refusal
