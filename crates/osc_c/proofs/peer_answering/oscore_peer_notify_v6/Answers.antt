use Rattle.std.proofs.Common.{◌∙◌, ap, length, refl, subst, sym, take}
use Rattle.osc_coap.specs.Datagram.{Parts}
use Rattle.osc_life.specs.ServerHistory.{Notify, Replied}
use Rattle.osc_handle.specs.TicketBytes.{ticket_in}
use Rattle.osc_peer_handle.specs.PeerBytes.{StepsAnswering, inside_of}
use Rattle.osc_c.specs.Answering.{ReadsReplying}
use Rattle.osc_status.specs.Statuses.{code}
use Rattle.osc_c.proofs.PeerRead.{answered_once, peer_notifying_read}
use Rattle.osc_c.proofs.PeerServing.{peer_notify_faulty}
use Rattle.osc_c.proofs.Room.{peer_notify_has_room}
use Rattle.osc_c.proofs.peer_answering.oscore_peer_notify_v6.Goals as goal

pub returns-in-Ok-clause-foreign : goal.returns-in-Ok-clause-foreign
returns-in-Ok-clause-foreign c = λ q is whole ticket other. let f = c.in-Ok.ensures.foreign q is whole ticket other in absurd f

pub returns-in-Ok-clause-save_first : goal.returns-in-Ok-clause-save_first
returns-in-Ok-clause-save_first c = λ q is ticket named h o w wants most. let f = c.in-Ok.ensures.save_first q is ticket named h o w wants most in absurd f

pub returns-in-Err-clause-foreign : goal.returns-in-Err-clause-foreign
returns-in-Err-clause-foreign c = λ q is whole ticket other. c.code.ensures ∙ ap code (c.in-Err.ensures.foreign q is whole ticket other)

pub returns-in-Err-clause-save_first : goal.returns-in-Err-clause-save_first
returns-in-Err-clause-save_first c = λ q is ticket named h o w wants most.
    let f = c.in-Err.ensures.save_first q is ticket named h o w wants most in (c.code.ensures ∙ ap code f.0, f.1)

pub returns-in-Ok-clause-malformed : goal.returns-in-Ok-clause-malformed
returns-in-Ok-clause-malformed c = λ whole ticket fault place has.
    let x = c.in-Ok.ensures.sealed in absurd (c.one_datagram.ensures.never_both x.0 c.args.plain.now fault place x.1 has)

pub returns-in-Err-clause-malformed : goal.returns-in-Err-clause-malformed
returns-in-Err-clause-malformed c = peer_notify_faulty c.one_datagram.ensures.one_fault c.one_datagram.ensures.never_both c.args.peer.now c.notify_in.new.kept c.args.ticket.now c.args.plain.now (length c.args.out.now) c.notify_in.new.peer
    c.in-Err.refusal.status c.code.result c.in-Err.refusal.detail c.in-Err.ensures.refused c.code.ensures

pub returns-in-Err-clause-spared : goal.returns-in-Err-clause-spared
returns-in-Err-clause-spared c = λ other. c.in-Err.ensures.spared (λ is. other (c.code.ensures ∙ ap code is))

pub returns-in-Ok-clause-answers : goal.returns-in-Ok-clause-answers
returns-in-Ok-clause-answers c = λ q of ticket named h g o entry w catches none never y.
    let x = c.in-Ok.ensures.sealed in
    let text = take c.in-Ok.len c.notify_in.new.out in
    let p = c.args.peer.now in
    let t = ticket_in (inside_of p c.args.ticket.now) in
    let room = length c.args.out.now in
    let step = subst (λ (m : Parts). StepsAnswering p h (Notify t m room) (Replied text) o c.notify_in.new.peer) (c.one_datagram.ensures.one x.0 q c.args.plain.now x.1 of) (x.2 named h o w) in
    answered_once c.one_server_answer.ensures (λ e. ReadsReplying e 0 c.args.detail.now text) p c.notify_in.new.peer h g o (Notify t q room) (Replied text) entry w catches step y (refl, refl)

pub returns-in-Err-clause-answers : goal.returns-in-Err-clause-answers
returns-in-Err-clause-answers c = peer_notifying_read c.one_server_answer.ensures c.one_datagram.ensures.one c.one_datagram.ensures.never_both c.args.peer.now c.notify_in.new.kept c.args.ticket.now c.args.plain.now (length c.args.out.now) c.notify_in.new.peer
    c.in-Err.refusal.status c.code.result c.in-Err.refusal.detail (take c.args.out_len.now c.notify_in.new.out) c.in-Err.ensures.refused c.code.ensures

pub returns-in-Err-clause-enough : goal.returns-in-Err-clause-enough
returns-in-Err-clause-enough c = λ h o w enough is.
    peer_notify_has_room c.enough_room.ensures.response c.args.peer.now c.notify_in.new.kept c.args.ticket.now c.args.plain.now (length c.args.out.now) c.notify_in.new.peer
    c.in-Err.refusal.status c.in-Err.refusal.detail c.in-Err.ensures.refused c.in-Err.ensures.foreign h o w enough (sym c.code.ensures ∙ is)
