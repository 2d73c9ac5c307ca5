use Rattle.std.proofs.Common.{ap}
use Rattle.osc_message.specs.Views.{place_of, sending_of}
use Rattle.osc_message.proofs.place.address_at.Goals as goal

pub returns-in-Some-clause-to : goal.returns-in-Some-clause-to
returns-in-Some-clause-to c = (sending_of c.in-Some.exchange, ap place_of c.in-Some.is, c.as_slice.ensures.value)
