use Rattle.std.proofs.Common.{subst}
use Rattle.osc_client.specs.ClientDeciding.{Decides}
use Rattle.osc_client.proofs.Showing.{shows_notification, shows_response}
use Rattle.osc_client.proofs.decision.ClientDecision.outcome.Goals as goal

pub returns-in-Deliver : goal.returns-in-Deliver
returns-in-Deliver c = λ answer h.
    shows_response c.in-Deliver.read c.in-Deliver.number c.args.datagram.now c.opened-in-Deliver.result c.opened-in-Deliver.ensures answer (subst (λ d. Decides d c.args.datagram.now answer) c.in-Deliver.is h)

pub returns-in-Notified : goal.returns-in-Notified
returns-in-Notified c = λ answer h.
    shows_notification c.in-Notified.read c.in-Notified.number c.args.datagram.now c.opened.result c.opened.ensures answer (subst (λ d. Decides d c.args.datagram.now answer) c.in-Notified.is h)
