use Rattle.osc_peer_calls.proofs.CountedPeers.{peers_are_fresh, peers_obey_once}
use Rattle.osc_peer_calls.proofs.laws.peers_are_fresh.Goals as goal

pub returns : goal.returns
returns c = record { since = peers_are_fresh c.fresh_on_demand.ensures; once = peers_obey_once c.echo_by_numbers.ensures.ends c.one_command.ensures }
