use Rattle.std.proofs.Common.{ap, refl, Some}
use Rattle.osc_message.specs.Views.{place_of, sending_of}
use Rattle.osc_message.proofs.place.acknowledge_at.Goals as goal

pub returns-in-Response : goal.returns-in-Response
returns-in-Response c = (sending_of c.in-Some.exchange, ap place_of c.in-Some.is, refl, c.in-Response.is, ap Some c.stop.ensures)

pub returns-in-Acknowledgement : goal.returns-in-Acknowledgement
returns-in-Acknowledgement c = (sending_of c.in-Some.exchange, ap place_of c.in-Some.is, refl, c.in-Acknowledgement.is, refl)
