use Rattle.osc_message.proofs.OneToAPeer.{one_to_a_peer}
use Rattle.osc_message.proofs.laws.one_message_to_a_peer.Goals as goal

pub returns : goal.returns
returns c = one_to_a_peer
