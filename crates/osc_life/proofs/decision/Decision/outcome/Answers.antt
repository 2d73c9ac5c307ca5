use Rattle.std.proofs.Common.{subst}
use Rattle.osc_life.specs.Deciding.{Decides}
use Rattle.osc_life.proofs.Showing.{shows_delivery}
use Rattle.osc_life.proofs.decision.Decision.outcome.Goals as goal

pub returns-in-Deliver-clause-shows : goal.returns-in-Deliver-clause-shows
returns-in-Deliver-clause-shows c = λ answer h.
    shows_delivery c.in-Deliver.read c.in-Deliver.ticket c.args.datagram.now c.opened.result c.opened.ensures answer (subst (λ d. Decides d c.args.datagram.now answer) c.in-Deliver.is h)
