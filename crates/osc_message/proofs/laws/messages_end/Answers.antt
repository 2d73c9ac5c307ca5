use Rattle.osc_message.proofs.Counting.{rest_is_young}
use Rattle.osc_message.proofs.Times.{is_given_up_in_time}
use Rattle.osc_message.proofs.laws.messages_end.Goals as goal

pub returns-clause-given_up : goal.returns-clause-given_up
returns-clause-given_up c = is_given_up_in_time

pub returns-clause-young : goal.returns-clause-young
returns-clause-young c = rest_is_young
