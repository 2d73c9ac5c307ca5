use Rattle.std.proofs.Common.{◌≡◌, Err, IfSome, ap, length, refl, subst}
use Rattle.osc_coap.specs.Views.{parts_of}
use Rattle.osc_context.specs.Reserving.{next_limit}
use Rattle.osc_life.specs.LifeAnswer.{asks_own}
use Rattle.osc_life.specs.ServerHistory.{Reply}
use Rattle.osc_life.specs.declared.server_error.ReplyError.{ReplyError}
use Rattle.osc_handle.specs.TicketBytes.{ticket_in}
use Rattle.osc_handle.proofs.NumberSteps.{no_error}
use Rattle.osc_handle.specs.KeptServerBytes.{entry_of_kept_reply}
use Rattle.osc_handle.specs.declared.kept_refusal.KeptReplyRefusal.{KeptReplyRefusal}
use Rattle.osc_handle.specs.declared.kept_refusal.KeptReplyRefusal.TheVariants.{BadHandle, Refused, SaveFirst, TicketSpent}
use Rattle.osc_peer_handle.specs.PeerBytes.{StepsAnswering, inside_of}
use Rattle.osc_peer_handle.specs.declared.peer_handle.PeerHandle.{PeerHandle}
use Rattle.osc_c.specs.PeerCalls.{AsksToSave}
use Rattle.osc_c.specs.PeerCalls.RefusesPeerReplying.{malformed, refused, save_first, spent}
use Rattle.osc_status.specs.declared.refusal.Refusal.{Refusal}
use Rattle.osc_c.proofs.PeerServing.{apart}
use Rattle.osc_c.proofs.peer_answering.reply_in.Goals as goal

pub returns-in-Err-clause-refused : goal.returns-in-Err-clause-refused
returns-in-Err-clause-refused c =
    malformed (c.if-not-is_whole.ensures.yes refl) (c.if-not-is_whole-2.ensures.yes refl) c.in-Err.error.fault c.in-Err.error.place c.in-Err.ensures.refused
    (ap (λ (r : Refusal). r.status) c.into-in-Err.ensures)
    (ap (λ (r : Refusal). r.detail) c.into-in-Err.ensures)

pub returns-in-Err-clause-foreign : goal.returns-in-Err-clause-foreign
returns-in-Err-clause-foreign c = λ q is whole ticket other. let f = c.in-Err.ensures.accepts q is in absurd f

pub returns-in-Err-clause-save_first : goal.returns-in-Err-clause-save_first
returns-in-Err-clause-save_first c = λ q is ticket named h o w wants most. let f = c.in-Err.ensures.accepts q is in absurd f

pub returns-in-Err-clause-once : goal.returns-in-Err-clause-once
returns-in-Err-clause-once c = λ q is ticket named h o w spent none. let f = c.in-Err.ensures.accepts q is in absurd f

pub returns-in-Ok-reply-clause-save_first : goal.returns-in-Ok-reply-clause-save_first
returns-in-Ok-reply-clause-save_first c = λ q is ticket named h o w wants most. absurd (no_error (c.in-Ok-reply.ensures.refuses h o w ticket named wants))

pub returns-in-Ok-reply-clause-once : goal.returns-in-Ok-reply-clause-once
returns-in-Ok-reply-clause-once c = λ q is ticket named h o w spent none. absurd (no_error (c.in-Ok-reply.ensures.once ticket named h o w spent none))

pub returns-in-Err-SaveFirst-clause-refused : goal.returns-in-Err-SaveFirst-clause-refused
returns-in-Err-SaveFirst-clause-refused c =
    let is = c.in-Err-SaveFirst.field-0-is in
    let number = c.in-Err-SaveFirst.number in
    let first = c.in-Err-SaveFirst.ensures.refused number (ap (λ (r : KeptReplyRefusal). Err r) is) in
    let whole = c.in-Err-SaveFirst.ensures.accepted (apart c.in-Err-SaveFirst.field-0 (SaveFirst number) BadHandle is (λ f. let g : SaveFirst number ≡ BadHandle = f in cc)) in
    let same = c.in-Err-SaveFirst.ensures.unchanged in
    let asks = subst (λ (p : PeerHandle). AsksToSave p number p.received c.save_next.new.kept c.save_next.result.status) same.1 c.save_next.ensures.saves in
    save_first whole.0 whole.1 (parts_of c.in-Ok.message) c.in-Ok.ensures.accepted
    (subst (λ n. AsksToSave c.args.peer.now n c.args.peer.now.received c.save_next.new.kept c.save_next.result.status) first.0 asks) c.save_next.ensures.detail first.1

pub returns-in-Err-SaveFirst-clause-once : goal.returns-in-Err-SaveFirst-clause-once
returns-in-Err-SaveFirst-clause-once c = λ q is ticket named h o w spent none.
    let first = c.in-Err-SaveFirst.ensures.refused c.in-Err-SaveFirst.number (ap (λ (r : KeptReplyRefusal). Err r) c.in-Err-SaveFirst.field-0-is) in
    absurd (none (first.1 h o w))

pub returns-in-Err-TicketSpent-clause-refused : goal.returns-in-Err-TicketSpent-clause-refused
returns-in-Err-TicketSpent-clause-refused c =
    let is = c.in-Err-TicketSpent.field-0-is in
    let whole = c.in-Err-TicketSpent.ensures.accepted (apart c.in-Err-TicketSpent.field-0 TicketSpent BadHandle is (λ f. let g : TicketSpent ≡ BadHandle = f in cc)) in
    spent whole.0 whole.1 (parts_of c.in-Ok.message) c.in-Ok.ensures.accepted (c.in-Err-TicketSpent.ensures.spent (ap (λ (r : KeptReplyRefusal). Err r) is))
    (ap (λ (r : Refusal). r.status) c.into-in-Err-TicketSpent.ensures)
    (ap (λ (r : Refusal). r.detail) c.into-in-Err-TicketSpent.ensures)

pub returns-in-Err-TicketSpent-clause-save_first : goal.returns-in-Err-TicketSpent-clause-save_first
returns-in-Err-TicketSpent-clause-save_first c = λ q is ticket named h o w wants most.
    let number = next_limit c.args.peer.now.server.reserved in
    absurd (apart c.in-Err-TicketSpent.field-0 TicketSpent (SaveFirst number) c.in-Err-TicketSpent.field-0-is (λ f. let g : TicketSpent ≡ SaveFirst number = f in cc)
    (c.in-Err-TicketSpent.ensures.refuses h o w ticket named wants))

pub replying_refusal-requires : goal.replying_refusal-requires
replying_refusal-requires c = λ none.
    c.in-Err-Refused.ensures.no_keeper_failed (ap (λ (r : KeptReplyRefusal). Err r) (subst (λ (e : ReplyError). c.in-Err-Refused.field-0 ≡ Refused e) none c.in-Err-Refused.field-0-is))

pub returns-in-Err-Refused-clause-refused : goal.returns-in-Err-Refused-clause-refused
returns-in-Err-Refused-clause-refused c =
    let is = c.in-Err-Refused.field-0-is in
    let q = parts_of c.in-Ok.message in
    let e = c.in-Err-Refused.error in
    let p = c.args.peer.now in
    let t = ticket_in (inside_of p c.args.ticket.now) in
    let whole = c.in-Err-Refused.ensures.accepted (apart c.in-Err-Refused.field-0 (Refused e) BadHandle is (λ f. let g : Refused e ≡ BadHandle = f in cc)) in
    refused whole.0 whole.1 q c.in-Ok.ensures.accepted e c.replying_refusal.ensures
    (λ named h old w. subst (λ (r : KeptReplyRefusal). IfSome (entry_of_kept_reply (Err r) c.reply.new.out) (λ entry. StepsAnswering p h (Reply t (asks_own t c.args.own) c.args.mid q (length c.args.out.now)) entry old c.reply.new.self)) is
    (c.in-Err-Refused.ensures.answered named h old w))

pub returns-in-Err-Refused-clause-save_first : goal.returns-in-Err-Refused-clause-save_first
returns-in-Err-Refused-clause-save_first c = λ q is ticket named h o w wants most.
    let e = c.in-Err-Refused.error in
    let number = next_limit c.args.peer.now.server.reserved in
    absurd (apart c.in-Err-Refused.field-0 (Refused e) (SaveFirst number) c.in-Err-Refused.field-0-is (λ f. let g : Refused e ≡ SaveFirst number = f in cc)
    (c.in-Err-Refused.ensures.refuses h o w ticket named wants))

pub returns-in-Err-Refused-clause-once : goal.returns-in-Err-Refused-clause-once
returns-in-Err-Refused-clause-once c = λ q is ticket named h o w spent none.
    let e = c.in-Err-Refused.error in
    absurd (apart c.in-Err-Refused.field-0 (Refused e) TicketSpent c.in-Err-Refused.field-0-is (λ f. let g : Refused e ≡ TicketSpent = f in cc)
    (c.in-Err-Refused.ensures.once ticket named h o w spent none))
