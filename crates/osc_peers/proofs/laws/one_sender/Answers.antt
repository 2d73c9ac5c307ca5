use Rattle.osc_peers.proofs.Senders.{one_sender}
use Rattle.osc_peers.proofs.laws.one_sender.Goals as goal

pub returns : goal.returns
returns c = one_sender c.one_nonce.ensures
