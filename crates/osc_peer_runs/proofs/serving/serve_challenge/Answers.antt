use Rattle.osc_peer_runs.proofs.PeerCallLemmas.{challenge_called}
use Rattle.osc_peer_runs.proofs.serving.serve_challenge.Goals as goal

pub returns : goal.returns
returns g c =
    challenge_called c.args.peer.now c.challenge_at.new.peer c.args.tickets.now c.challenge_at.new.tickets c.args.challenging.now c.deref_mut.result.now c.challenge_at.result
    c.deref_mut.ensures.value c.challenge_at.ensures.served c.challenge_at.ensures.client
