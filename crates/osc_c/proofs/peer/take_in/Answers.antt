use Rattle.std.proofs.Common.{refl, ◌≡◌, ◌<◌, Err, ap, subst, sym, take}
use Rattle.osc_context.specs.Reserving.{next_limit}
use Rattle.osc_life.specs.ServerHistory.{Datagram, Deliver, TicketValues, Took}
use Rattle.osc_life.specs.Views.{values_of}
use Rattle.osc_observe.specs.Views.{received_of}
use Rattle.osc_kept_ends.specs.EchoNumber.{echo_of}
use Rattle.osc_handle.proofs.NumberSteps.{no_error}
use Rattle.osc_peer_handle.specs.PeerBytes.{StepsAnswering, next_in}
use Rattle.osc_peer_handle.specs.declared.peer_handle.PeerHandle.{PeerHandle}
use Rattle.osc_peer_handle.specs.declared.peer_refusal.PeerRefusal.{PeerRefusal}
use Rattle.osc_peer_handle.specs.declared.peer_refusal.PeerRefusal.TheVariants.{BadHandle, KeepFirst, SaveFirst}
use Rattle.osc_c.specs.PeerCalls.{AsksToSave}
use Rattle.osc_c.specs.PeerCalls.RefusesPeerServing.{keep_first, refused}
use Rattle.osc_c.proofs.PeerServing.{apart, delivered_below, names_life, peer_delivered_to, peer_takes_by}
use Rattle.osc_c.proofs.peer.take_in.Goals as goal

pub returns-in-Ok-delivery-clause-opened : goal.returns-in-Ok-delivery-clause-opened
returns-in-Ok-delivery-clause-opened c = λ h old w.
    let p = c.args.peer.now in
    let q = c.take.new.self in
    let d = c.args.datagram.now in
    let reply = take c.in-Ok.field-0.reply c.take.new.out in
    let o = c.in-Ok-delivery.message in
    let t = c.in-Ok-delivery.ticket in
    let step = peer_delivered_to p h q c.args.now c.args.mid d reply c.in-Ok.field-0.outcome o t old c.in-Ok-delivery.ensures.opened (c.in-Ok.ensures.answered h old w) in
    let names = names_life q step.new step.g c.args.now c.args.mid (echo_of (next_in p)) d reply (received_of o) (values_of t) step.row step.serves in
    subst (λ (v : TicketValues). StepsAnswering p h (Datagram c.args.now (echo_of (next_in p)) c.args.mid d) (Took (Deliver (received_of o) v) reply) old q)
    (sym (c.ticket.ensures.inside names.0 names.1)) step

pub returns-in-Ok-delivery-clause-below : goal.returns-in-Ok-delivery-clause-below
returns-in-Ok-delivery-clause-below c = λ h old w.
    let p = c.args.peer.now in
    let q = c.take.new.self in
    let d = c.args.datagram.now in
    let reply = take c.in-Ok.field-0.reply c.take.new.out in
    let o = c.in-Ok-delivery.message in
    let t = c.in-Ok-delivery.ticket in
    let step = peer_delivered_to p h q c.args.now c.args.mid d reply c.in-Ok.field-0.outcome o t old c.in-Ok-delivery.ensures.opened (c.in-Ok.ensures.answered h old w) in
    let names = names_life q step.new step.g c.args.now c.args.mid (echo_of (next_in p)) d reply (received_of o) (values_of t) step.row step.serves in
    let number = ap (λ (v : TicketValues). v.number) (c.ticket.ensures.inside names.0 names.1) in
    subst (λ n. n < q.received) (sym number) (delivered_below c.in-Ok.field-0.outcome o t q.received c.in-Ok-delivery.ensures.opened (c.in-Ok.ensures.kept h old w))

pub returns-in-Ok-delivery-clause-save_first : goal.returns-in-Ok-delivery-clause-save_first
returns-in-Ok-delivery-clause-save_first c = λ h o w wants most. absurd (no_error (c.in-Ok.ensures.saves_first h o w wants))

pub returns-in-Err-delivery-clause-refused : goal.returns-in-Err-delivery-clause-refused
returns-in-Err-delivery-clause-refused c =
    refused (c.in-Ok.ensures.accepted (λ e. no_error e))
    (λ h old w. peer_takes_by c.args.peer.now h c.take.new.self c.args.now c.args.mid c.args.datagram.now (take c.in-Ok.field-0.reply c.take.new.out) c.in-Ok.field-0.outcome c.in-Err-delivery.refusal.status c.in-Err-delivery.refusal.detail old
    (c.in-Ok.ensures.answered h old w) c.in-Err-delivery.ensures.refused)

pub returns-in-Err-delivery-clause-save_first : goal.returns-in-Err-delivery-clause-save_first
returns-in-Err-delivery-clause-save_first c = λ h o w wants most. absurd (no_error (c.in-Ok.ensures.saves_first h o w wants))

pub returns-in-KeepFirst-clause-refused : goal.returns-in-KeepFirst-clause-refused
returns-in-KeepFirst-clause-refused c =
    let number = c.in-KeepFirst.number in
    let is : c.in-Err.refusal ≡ KeepFirst number = c.in-KeepFirst.is in
    let whole = c.in-Err.ensures.accepted (apart c.in-Err.refusal (KeepFirst number) BadHandle is (λ f. let g : KeepFirst number ≡ BadHandle = f in cc)) in
    let same = c.in-Err.ensures.unchanged in
    keep_first whole same.0 refl number
    (subst (λ (p : PeerHandle). AsksToSave p p.server.reserved number c.save_next-in-KeepFirst.new.kept c.save_next-in-KeepFirst.result.status) same.0 c.save_next-in-KeepFirst.ensures.saves)
    c.save_next-in-KeepFirst.ensures.detail (c.in-Err.ensures.keep_first number (ap (λ (r : PeerRefusal). Err r) is))

pub returns-in-KeepFirst-clause-save_first : goal.returns-in-KeepFirst-clause-save_first
returns-in-KeepFirst-clause-save_first c = λ h o w wants most.
    let number = c.in-KeepFirst.number in
    let other = next_limit c.args.peer.now.server.reserved in
    let is : c.in-Err.refusal ≡ KeepFirst number = c.in-KeepFirst.is in
    absurd (apart c.in-Err.refusal (KeepFirst number) (SaveFirst other) is (λ f. let g : KeepFirst number ≡ SaveFirst other = f in cc) (c.in-Err.ensures.saves_first h o w wants))
