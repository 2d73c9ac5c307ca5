use Rattle.std.proofs.Common.{◌∙◌, ap, length, refl, subst, sym, take}
use Rattle.osc_coap.specs.Datagram.{Parts}
use Rattle.osc_client.specs.ClientHistory.{Request, Sent}
use Rattle.osc_c.specs.Asking.{ReadsAsking}
use Rattle.osc_c.specs.PeerAskingCalls.{StepsAmong}
use Rattle.osc_status.specs.Statuses.{code}
use Rattle.osc_c.proofs.PeerAsking.{peer_request_faulty}
use Rattle.osc_c.proofs.PeerRead.{heard_once, peer_asking_read}
use Rattle.osc_c.proofs.Room.{peer_request_has_room}
use Rattle.osc_c.proofs.peer_asking.oscore_peer_request_v5.Goals as goal

pub returns-in-Ok-clause-save_first : goal.returns-in-Ok-clause-save_first
returns-in-Ok-clause-save_first c = λ q is whole pending wants most. let f = c.in-Ok.ensures.save_first q is whole pending wants most in absurd f

pub returns-in-Err-clause-save_first : goal.returns-in-Err-clause-save_first
returns-in-Err-clause-save_first c = λ q is whole pending wants most. let f = c.in-Err.ensures.save_first q is whole pending wants most in (c.code.ensures ∙ ap code f.0, f.1)

pub returns-in-Ok-clause-answers : goal.returns-in-Ok-clause-answers
returns-in-Ok-clause-answers c = λ q of pending a b o entry w catches none never y.
    let x = c.in-Ok.ensures.sealed in
    let text = take c.in-Ok.len c.request_in.new.out in
    let p = c.args.peer.now in
    let ps = c.args.pending.now in
    let room = length c.args.out.now in
    let step = subst (λ (m : Parts). StepsAmong p ps a (Request c.args.now m room) (Sent text) o c.request_in.new.peer c.request_in.new.pending_count c.request_in.new.pending) (c.one_datagram.ensures.one x.0 q c.args.plain.now x.1 of) (x.2 a o w) in
    heard_once c.one_client_answer.ensures (λ e. ReadsAsking e 0 c.args.detail.now text) p c.request_in.new.peer c.args.pending_count.now c.request_in.new.pending_count ps c.request_in.new.pending a b o
    (Request c.args.now q room) (Sent text) entry w catches step y (refl, refl)

pub returns-in-Ok-clause-malformed : goal.returns-in-Ok-clause-malformed
returns-in-Ok-clause-malformed c = λ whole pending fault place has.
    let x = c.in-Ok.ensures.sealed in absurd (c.one_datagram.ensures.never_both x.0 c.args.plain.now fault place x.1 has)

pub returns-in-Err-clause-answers : goal.returns-in-Err-clause-answers
returns-in-Err-clause-answers c = peer_asking_read c.one_client_answer.ensures c.one_datagram.ensures.one c.one_datagram.ensures.never_both c.args.peer.now c.args.pending_count.now c.args.pending.now c.request_in.new.kept c.args.now c.args.plain.now
    (length c.args.out.now) c.request_in.new.peer c.request_in.new.pending_count c.request_in.new.pending c.in-Err.refusal.status c.code.result c.in-Err.refusal.detail (take c.args.out_len.now c.request_in.new.out)
    c.in-Err.ensures.refused c.code.ensures

pub returns-in-Err-clause-malformed : goal.returns-in-Err-clause-malformed
returns-in-Err-clause-malformed c = peer_request_faulty c.one_datagram.ensures.one_fault c.one_datagram.ensures.never_both c.args.peer.now c.args.pending_count.now c.args.pending.now c.request_in.new.kept c.args.now c.args.plain.now
    (length c.args.out.now) c.request_in.new.peer c.request_in.new.pending_count c.request_in.new.pending c.in-Err.refusal.status c.code.result c.in-Err.refusal.detail c.in-Err.ensures.refused c.code.ensures

pub returns-in-Err-clause-spared : goal.returns-in-Err-clause-spared
returns-in-Err-clause-spared c = λ other. c.in-Err.ensures.spared (λ is. other (c.code.ensures ∙ ap code is))

pub returns-in-Err-clause-enough : goal.returns-in-Err-clause-enough
returns-in-Err-clause-enough c = λ a o w enough is.
    peer_request_has_room c.enough_room.ensures.request c.args.peer.now c.args.pending_count.now c.args.pending.now c.request_in.new.kept c.args.now c.args.plain.now
    (length c.args.out.now) c.request_in.new.peer c.request_in.new.pending_count c.request_in.new.pending c.in-Err.refusal.status c.in-Err.refusal.detail c.in-Err.ensures.refused a o w enough (sym c.code.ensures ∙ is)
