use Rattle.osc_peers.proofs.Senders.{roles_apart}
use Rattle.osc_peers.proofs.laws.roles_apart.Goals as goal

pub returns : goal.returns
returns c = roles_apart c.one_additional_data.ensures
