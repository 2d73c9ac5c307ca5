use Rattle.osc_peer_calls.proofs.CountedPeers.{peers_are_alike}
use Rattle.osc_peer_calls.proofs.laws.peers_are_alike.Goals as goal

pub returns : goal.returns
returns c = peers_are_alike
