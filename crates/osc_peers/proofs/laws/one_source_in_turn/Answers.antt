use Rattle.osc_peers.proofs.Turning.{one_source_in_turn}
use Rattle.osc_peers.proofs.laws.one_source_in_turn.Goals as goal

pub returns : goal.returns
returns c = one_source_in_turn
