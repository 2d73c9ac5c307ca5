use Rattle.osc_laws.proofs.Tickets.{tickets_once}
use Rattle.osc_laws.proofs.laws.ticket_once.Goals as goal

pub returns : goal.returns
returns c = tickets_once c.delivered_once.ensures
