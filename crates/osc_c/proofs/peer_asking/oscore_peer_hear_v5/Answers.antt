use Rattle.std.proofs.Common.{sym, subst}
use Rattle.osc_context.specs.Views.{number_of}
use Rattle.osc_client.specs.ClientHistory.{Datagram, Took}
use Rattle.osc_observe.specs.Views.{received_of}
use Rattle.osc_c.specs.Asking.{ReadsTaking, heard_as}
use Rattle.osc_c.specs.PeerAskingCalls.{StepsAmong}
use Rattle.osc_c.proofs.PeerAsking.{heard_read, shows_too}
use Rattle.osc_c.proofs.PeerRead.{heard_once, peer_hearing_read}
use Rattle.osc_c.proofs.peer_asking.oscore_peer_hear_v5.Goals as goal

pub returns-in-Ok-clause-opened : goal.returns-in-Ok-clause-opened
returns-in-Ok-clause-opened c = λ done. (
  c.in-Ok.message,
  shows_too c.show.new.view c.in-Ok.message c.in-Ok.stays c.show.ensures.shows,
  c.show.ensures.all,
  λ more. (c.show.ensures.first more).0,
  λ a old w.
      subst
      (λ k. StepsAmong c.args.peer.now c.args.pending.now a (Datagram c.args.now c.args.datagram.now) (Took (heard_as c.in-Ok.stays (received_of c.in-Ok.message) k)) old c.hear_in.new.peer c.hear_in.new.pending_count c.hear_in.new.pending)
      (sym c.number.ensures.value) (c.in-Ok.ensures.opened a old w),
)

pub returns-in-Ok-clause-answers : goal.returns-in-Ok-clause-answers
returns-in-Ok-clause-answers c = λ pending a b o entry w catches y.
    let stays = c.in-Ok.stays in
    let m = c.in-Ok.message in
    let n = number_of c.in-Ok.number in
    heard_once c.one_client_answer.ensures (λ e. ReadsTaking e 0 c.args.detail.now c.number.result stays) c.args.peer.now c.hear_in.new.peer c.args.pending_count.now c.hear_in.new.pending_count c.args.pending.now c.hear_in.new.pending a b o
    (Datagram c.args.now c.args.datagram.now) (Took (heard_as stays (received_of m) n)) entry w catches (c.in-Ok.ensures.opened a o w) y (heard_read stays m n c.args.detail.now c.number.result c.number.ensures.value)

pub returns-in-Err-clause-answers : goal.returns-in-Err-clause-answers
returns-in-Err-clause-answers c = peer_hearing_read c.one_client_answer.ensures c.args.peer.now c.args.pending_count.now c.args.pending.now c.hear_in.new.peer c.hear_in.new.pending_count c.hear_in.new.pending c.args.now c.args.datagram.now
    c.in-Err.refusal.status c.code.result c.in-Err.refusal.detail c.args.request.now c.args.opened.now.is_notification c.in-Err.ensures.refused c.code.ensures
