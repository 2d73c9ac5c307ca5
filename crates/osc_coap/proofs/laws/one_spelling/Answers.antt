use Rattle.osc_coap.proofs.OneReading.{spells_one}
use Rattle.osc_coap.proofs.laws.one_spelling.Goals as goal

pub returns : goal.returns
returns c = spells_one
