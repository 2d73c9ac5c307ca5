use Rattle.osc_context.proofs.OneAdditional.{additional_data_once}
use Rattle.osc_context.proofs.laws.one_additional_data.Goals as goal

pub returns : goal.returns
returns c = additional_data_once
