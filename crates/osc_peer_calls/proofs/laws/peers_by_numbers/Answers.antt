use Rattle.osc_peer_calls.proofs.CountedPeers.{peers_by_numbers}
use Rattle.osc_peer_calls.proofs.laws.peers_by_numbers.Goals as goal

pub returns : goal.returns
returns c = peers_by_numbers c.two_peers.ensures c.echo_by_numbers.ensures.ends
