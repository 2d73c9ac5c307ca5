use Rattle.osc_peer_runs.proofs.PeerCallLemmas.{notify_called}
use Rattle.osc_peer_runs.proofs.serving.serve_notification.Goals as goal

pub returns : goal.returns
returns g c =
    notify_called c.args.peer.now c.notify_at.new.peer c.args.tickets.now c.args.notifying.now c.deref.result.now c.deref_mut.result.now c.notify_at.result
    c.deref.ensures.value c.deref_mut.ensures.value c.notify_at.ensures.served c.notify_at.ensures.client
