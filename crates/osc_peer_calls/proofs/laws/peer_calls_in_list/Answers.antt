use Rattle.osc_peer_calls.proofs.ServerSteps.{answers_in_list}
use Rattle.osc_peer_calls.proofs.ClientSteps.{asks_in_list}
use Rattle.osc_peer_calls.proofs.PeerStarts.{starts_in_list}
use Rattle.osc_peer_calls.proofs.laws.peer_calls_in_list.Goals as goal

pub returns : goal.returns
returns c = record {
  server = answers_in_list c.peers_by_numbers.ensures;
  client = asks_in_list c.peers_by_numbers.ensures;
  starts = starts_in_list c.peers_by_numbers.ensures;
}
