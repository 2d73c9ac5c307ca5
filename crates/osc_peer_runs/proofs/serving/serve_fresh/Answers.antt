use Rattle.osc_fresh.specs.Views.{last_of}
use Rattle.osc_peer_runs.proofs.PeerCallLemmas.{fresh_called}
use Rattle.osc_peer_runs.proofs.serving.serve_fresh.Goals as goal

pub returns : goal.returns
returns g c = λ heard.
    fresh_called c.args.peer.now c.take_fresh.new.peer (last_of c.args.wishes.now) (last_of c.take_fresh.new.wishes) heard c.args.tickets.now c.args.fresh_ms c.args.arrival.now c.take_fresh.result.0 c.take_fresh.result.1
    c.take_fresh.ensures.served c.take_fresh.ensures.client
