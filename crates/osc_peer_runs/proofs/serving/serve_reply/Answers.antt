use Rattle.osc_peer_runs.proofs.PeerCallLemmas.{reply_called}
use Rattle.osc_peer_runs.proofs.serving.serve_reply.Goals as goal

pub returns : goal.returns
returns g c =
    reply_called c.args.peer.now c.reply_at.new.peer c.args.tickets.now c.reply_at.new.tickets c.args.answering.now c.deref.result.now c.deref_mut.result.now c.reply_at.result
    c.deref.ensures.value c.deref_mut.ensures.value c.reply_at.ensures.served c.reply_at.ensures.client
