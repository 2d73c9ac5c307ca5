use Rattle.osc_message.proofs.Counting.{once}
use Rattle.osc_message.proofs.laws.messages_end_once.Goals as goal

pub returns : goal.returns
returns c = once
