use Rattle.std.proofs.Common.{inl, length}
use Rattle.std.proofs.lemmas.Option.{IfSome_then}
use Rattle.osc_coap.specs.Views.{parts_of}
use Rattle.osc_life.specs.LifeAnswer.{asks_own}
use Rattle.osc_life.specs.ServerHistory.{Reply}
use Rattle.osc_handle.specs.TicketBytes.{ticket_in}
use Rattle.osc_handle.specs.KeptServerBytes.{entry_of_kept_reply}
use Rattle.osc_peers.specs.Peers.{back}
use Rattle.osc_peers.specs.Roles.{turned}
use Rattle.osc_peer_bytes.proofs.Calls.{answers_after, reply_trusts, reply_under}
use Rattle.osc_peer_handle.specs.PeerBytes.{inside_of}
use Rattle.osc_peer_bytes.proofs.answering.reply_bytes_in_list.Goals as goal

pub returns-clause-answered : goal.returns-clause-answered
returns-clause-answered c = λ s w requests room counted runs of gives none.
    let t = ticket_in (inside_of c.args.peer.now c.args.ticket.now) in
    let own = asks_own t c.args.own in
    let plain = parts_of c.args.plain.now in
    let size = length c.args.out.now in
    IfSome_then (entry_of_kept_reply c.reply.result c.reply.new.out) (c.reply.ensures.answered of runs.h runs.own runs.serves) (λ entry step.
    answers_after c.peer_calls_in_list.ensures.server s w c.args.peer.now c.reply.new.self requests room runs (Reply t own c.args.mid plain size) entry counted tt (inl none) step
    (reply_trusts c.answered_once.ensures.once room (turned s) (back w) runs.h step.g t own c.args.mid plain size entry _ counted.back_is.answers runs.runs.server_is (gives runs.h runs.runs.server_is).0
    (gives runs.h runs.runs.server_is).1
    step.passes step.serves.serves)
    (reply_under step.g t own c.args.mid plain size entry c.reply.new.self.received step.row))
