use Rattle.osc_peer_calls.proofs.HeardEchoes.{stays}
use Rattle.osc_peer_calls.proofs.laws.heard_stays.Goals as goal

pub returns : goal.returns
returns c = stays
