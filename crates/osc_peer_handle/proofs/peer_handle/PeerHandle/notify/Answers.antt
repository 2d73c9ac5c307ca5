use Rattle.std.proofs.Common.{inr, length, refl, subst}
use Rattle.std.specs.Prelude.{IfSome}
use Rattle.std.proofs.lemmas.Option.{IfSome_then}
use Rattle.osc_coap.specs.Views.{parts_of}
use Rattle.osc_life.specs.ServerHistory.{Notify}
use Rattle.osc_handle.specs.TicketBytes.{ticket_in}
use Rattle.osc_handle.specs.KeptServerBytes.{entry_of_kept_reply}
use Rattle.osc_peer_handle.specs.PeerBytes.{StepsAnswering}
use Rattle.osc_peer_handle.proofs.AnswerSteps.{caught_up, has_to_save, inside_whole, notified_context, steps_answering}
use Rattle.osc_peer_handle.proofs.peer_handle.PeerHandle.notify.Goals as goal

pub returns-clause-answered : goal.returns-clause-answered
returns-clause-answered c = λ of h old w.
    let p = c.args.self.now in
    let (g, passes, serves) = caught_up p old h w in
    subst (λ x. IfSome (entry_of_kept_reply c.notify.result c.notify.new.out) (λ entry.
    StepsAnswering p h (Notify (ticket_in x) (parts_of c.args.plain.now) (length c.args.out.now)) entry old (record p { server = c.notify.new.self })))
    c.in-Some.ensures.some.0
    (IfSome_then (entry_of_kept_reply c.notify.result c.notify.new.out) (c.notify.ensures.answered g old serves) (λ entry step.
    steps_answering p _ h g _ entry old refl refl refl w.has passes serves step
    (notified_context g (ticket_in c.in-Some.inside) (parts_of c.args.plain.now) (length c.args.out.now) entry)))

pub returns-clause-refused : goal.returns-clause-refused
returns-clause-refused c = λ number is.
    let refused = c.notify.ensures.refused number is in
    (refused.0, λ h o w. let (g, passes, serves) = caught_up c.args.self.now o h w in inr (refused.1 g o serves))

pub returns-clause-refuses : goal.returns-clause-refuses
returns-clause-refuses c = λ h o w ticket of wants.
    let p = c.args.self.now in
    let (g, passes, serves) = caught_up p o h w in
    c.notify.ensures.refuses g o serves (inside_whole p c.args.ticket.now c.in-Some.inside c.in-Some.ensures.some.0 ticket) (has_to_save _ _ p (c.claim_first.ensures.accepted c.in_default-claim_first.is) wants)
