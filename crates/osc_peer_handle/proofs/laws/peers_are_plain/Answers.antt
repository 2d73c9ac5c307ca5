use Rattle.osc_peer_handle.proofs.Plainness.{peers_plain}
use Rattle.osc_peer_handle.proofs.laws.peers_are_plain.Goals as goal

pub returns : goal.returns
returns c = peers_plain c.ends_are_plain.ensures
