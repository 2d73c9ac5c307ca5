use Rattle.std.proofs.Common.{length}
use Rattle.std.proofs.lemmas.Option.{IfSome_then}
use Rattle.osc_coap.specs.Views.{parts_of}
use Rattle.osc_life.specs.ServerHistory.{Notify}
use Rattle.osc_handle.specs.TicketBytes.{ticket_in}
use Rattle.osc_handle.specs.KeptServerBytes.{entry_of_kept_reply}
use Rattle.osc_peers.specs.Peers.{back}
use Rattle.osc_peers.specs.Roles.{turned}
use Rattle.osc_peer_bytes.proofs.Calls.{answers_after, notify_under}
use Rattle.osc_peer_calls.proofs.CallLemmas.{notify_trusts}
use Rattle.osc_peer_handle.specs.PeerBytes.{inside_of}
use Rattle.osc_peer_bytes.proofs.answering.notify_bytes_in_list.Goals as goal

pub returns-clause-answered : goal.returns-clause-answered
returns-clause-answered c = λ s w requests room counted runs of holds none.
    let t = ticket_in (inside_of c.args.peer.now c.args.ticket.now) in
    let plain = parts_of c.args.plain.now in
    let size = length c.args.out.now in
    IfSome_then (entry_of_kept_reply c.notify.result c.notify.new.out) (c.notify.ensures.answered of runs.h runs.own runs.serves) (λ entry step.
    answers_after c.peer_calls_in_list.ensures.server s w c.args.peer.now c.notify.new.self requests room runs (Notify t plain size) entry counted tt none step
    (notify_trusts (turned s) (back w) runs.h t plain size entry (holds runs.h runs.runs.server_is))
    (notify_under step.g t plain size entry c.notify.new.self.received step.row))
