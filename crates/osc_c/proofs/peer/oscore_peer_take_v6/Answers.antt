use Rattle.std.proofs.Common.{◌∙◌, ap, refl, take}
use Rattle.osc_life.specs.ServerHistory.{Datagram, Deliver, Took}
use Rattle.osc_observe.specs.Views.{received_of}
use Rattle.osc_handle.specs.TicketBytes.{ticket_in}
use Rattle.osc_kept_ends.specs.EchoNumber.{echo_of}
use Rattle.osc_peer_handle.specs.PeerBytes.{inside_of, next_in}
use Rattle.osc_c.specs.Answering.{ReadsServing}
use Rattle.osc_status.specs.Statuses.{code}
use Rattle.osc_c.proofs.PeerRead.{answered_once, peer_serving_read}
use Rattle.osc_c.proofs.peer.oscore_peer_take_v6.Goals as goal

pub returns-in-Ok-clause-opened : goal.returns-in-Ok-clause-opened
returns-in-Ok-clause-opened c = λ done. (
  c.in-Ok.message,
  c.show.ensures.shows,
  c.show.ensures.all,
  λ more. (c.show.ensures.first more).0,
  c.in-Ok.ensures.opened,
)

pub returns-in-Ok-clause-save_first : goal.returns-in-Ok-clause-save_first
returns-in-Ok-clause-save_first c = λ h o w wants most. let f = c.in-Ok.ensures.save_first h o w wants most in absurd f

pub returns-in-Err-clause-save_first : goal.returns-in-Err-clause-save_first
returns-in-Err-clause-save_first c = λ h o w wants most. let f = c.in-Err.ensures.save_first h o w wants most in (c.code.ensures ∙ ap code f.0, f.1)

pub returns-in-Err-clause-spared : goal.returns-in-Err-clause-spared
returns-in-Err-clause-spared c = λ other. c.in-Err.ensures.spared (λ is. other (c.code.ensures ∙ ap code is))

pub returns-in-Ok-clause-answers : goal.returns-in-Ok-clause-answers
returns-in-Ok-clause-answers c = λ h g o entry w catches none never y.
    let p = c.args.peer.now in
    let q = c.take_in.new.peer in
    let reply = take c.take_in.new.out_len c.take_in.new.out in
    let t = ticket_in (inside_of q c.in-Ok.right) in
    answered_once c.one_server_answer.ensures (λ e. ReadsServing e 0 c.args.detail.now t reply) p q h g o (Datagram c.args.now (echo_of (next_in p)) c.args.mid c.args.datagram.now)
    (Took (Deliver (received_of c.in-Ok.message) t) reply) entry w catches (c.in-Ok.ensures.opened h o w) y (refl, refl, refl)

pub returns-in-Err-clause-answers : goal.returns-in-Err-clause-answers
returns-in-Err-clause-answers c = peer_serving_read c.one_server_answer.ensures c.args.peer.now c.take_in.new.peer c.take_in.new.kept c.args.now c.args.mid c.args.datagram.now (take c.take_in.new.out_len c.take_in.new.out)
    c.in-Err.refusal.status c.code.result c.in-Err.refusal.detail (ticket_in (inside_of c.take_in.new.peer c.args.ticket.now)) c.in-Err.ensures.refused c.code.ensures
