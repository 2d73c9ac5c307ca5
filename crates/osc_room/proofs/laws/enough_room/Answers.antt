use Rattle.osc_room.proofs.Enough.{requests_have_room, responses_have_room}
use Rattle.osc_room.proofs.laws.enough_room.Goals as goal

pub returns-clause-request : goal.returns-clause-request
returns-clause-request c = requests_have_room c.lengths_by_parts.ensures.datagram c.options_ascend.ensures.datagram c.one_option_value.ensures.most

pub returns-clause-response : goal.returns-clause-response
returns-clause-response c = responses_have_room c.lengths_by_parts.ensures.datagram c.options_ascend.ensures.datagram c.one_option_value.ensures.most
