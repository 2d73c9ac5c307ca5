use Rattle.osc_peer_runs.proofs.PeerCallLemmas.{datagram_called}
use Rattle.osc_peer_runs.proofs.serving.serve_datagram.Goals as goal

pub returns : goal.returns
returns g c =
    datagram_called c.args.peer.now c.take_arrival-entry.new.peer c.args.tickets.now c.args.arrival.now c.take_arrival-entry.result.0 c.take_arrival-entry.result.1
    c.take_arrival-entry.ensures.served c.take_arrival-entry.ensures.client
