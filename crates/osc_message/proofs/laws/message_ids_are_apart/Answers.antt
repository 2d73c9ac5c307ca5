use Rattle.osc_message.proofs.Apart.{are_apart}
use Rattle.osc_message.proofs.laws.message_ids_are_apart.Goals as goal

pub returns : goal.returns
returns c = are_apart
