use Rattle.std.proofs.Common.{ap}
use Rattle.osc_observers.specs.Views.{place_of, watching_of}
use Rattle.osc_observers.proofs.places.address_at.Goals as goal

pub returns-in-Some-clause-from : goal.returns-in-Some-clause-from
returns-in-Some-clause-from c = (watching_of c.in-Some.watch, ap place_of c.in-Some.is, c.as_slice.ensures.value)
