use Rattle.std.proofs.Common.{inr, length, refl, subst, sym}
use Rattle.std.specs.Prelude.{IfSome}
use Rattle.std.proofs.lemmas.Option.{IfSome_then}
use Rattle.osc_coap.specs.Views.{parts_of}
use Rattle.osc_life.specs.LifeAnswer.{asks_own}
use Rattle.osc_life.specs.ServerHistory.{Reply}
use Rattle.osc_handle.specs.ServerBytes.{IsSpent}
use Rattle.osc_handle.specs.TicketBytes.{ticket_in}
use Rattle.osc_kept_ends.specs.Numbering.{upcoming}
use Rattle.osc_handle.specs.KeptServerBytes.{entry_of_kept_reply}
use Rattle.osc_handle.specs.Reserved.{WantsSave}
use Rattle.osc_peer_handle.specs.PeerBytes.{StepsAnswering}
use Rattle.osc_peer_handle.proofs.AnswerSteps.{caught_up, has_to_save, inside_whole, replied_context, spent_after, spent_before, steps_answering}
use Rattle.osc_peer_handle.proofs.peer_handle.PeerHandle.reply.Goals as goal

pub returns-clause-answered : goal.returns-clause-answered
returns-clause-answered c = λ of h old w.
    let p = c.args.self.now in
    let (g, passes, serves) = caught_up p old h w in
    let t = ticket_in c.in-Some.inside in
    subst (λ x. IfSome (entry_of_kept_reply c.reply.result c.reply.new.out) (λ entry.
    StepsAnswering p h (Reply (ticket_in x) (asks_own (ticket_in x) c.args.own) c.args.mid (parts_of c.args.plain.now) (length c.args.out.now)) entry old (record p { server = c.reply.new.self })))
    c.in-Some.ensures.some.0
    (IfSome_then (entry_of_kept_reply c.reply.result c.reply.new.out) (c.reply.ensures.answered g old serves) (λ entry step.
    steps_answering p _ h g _ entry old refl refl refl w.has passes serves step
    (replied_context g t (asks_own t c.args.own) c.args.mid (parts_of c.args.plain.now) (length c.args.out.now) entry)))

pub returns-clause-refused : goal.returns-clause-refused
returns-clause-refused c = λ number is.
    let refused = c.reply.ensures.refused number is in (
      refused.0,
      λ h o w.
          let (g, passes, serves) = caught_up c.args.self.now o h w in
          inr (subst (λ x. WantsSave (asks_own (ticket_in x) c.args.own) (upcoming o) c.args.self.now.server.reserved) c.in-Some.ensures.some.0 (refused.1 g o serves)),
    )

pub returns-clause-refuses : goal.returns-clause-refuses
returns-clause-refuses c = λ h o w ticket of wants.
    let p = c.args.self.now in
    let (g, passes, serves) = caught_up p o h w in
    c.reply.ensures.refuses g o serves (inside_whole p c.args.ticket.now c.in-Some.inside c.in-Some.ensures.some.0 ticket)
    (subst (λ x. WantsSave (asks_own (ticket_in x) c.args.own) (upcoming o) p.server.reserved) (sym c.in-Some.ensures.some.0) (has_to_save _ _ p (c.claim_first.ensures.accepted c.in_default-claim_first.is) wants))

pub returns-clause-spent : goal.returns-clause-spent
returns-clause-spent c = λ is h o w.
    let (g, passes, serves) = caught_up c.args.self.now o h w in
    let t = ticket_in c.in-Some.inside in
    subst (λ x. IsSpent h (ticket_in x) (asks_own (ticket_in x) c.args.own)) c.in-Some.ensures.some.0 (spent_before h g t (asks_own t c.args.own) passes (c.reply.ensures.spent is g o serves))

pub returns-clause-once : goal.returns-clause-once
returns-clause-once c = λ ticket of h o w spent none.
    let p = c.args.self.now in
    let t = ticket_in c.in-Some.inside in
    let (g, passes, serves) = caught_up p o h w in
    c.reply.ensures.once (inside_whole p c.args.ticket.now c.in-Some.inside c.in-Some.ensures.some.0 ticket) g o serves
    (spent_after h g t (asks_own t c.args.own) passes (subst (λ x. IsSpent h (ticket_in x) (asks_own (ticket_in x) c.args.own)) (sym c.in-Some.ensures.some.0) spent))
    (λ wants. none (inr (subst (λ x. WantsSave (asks_own (ticket_in x) c.args.own) (upcoming o) p.server.reserved) c.in-Some.ensures.some.0 wants)))
