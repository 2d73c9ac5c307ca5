use Rattle.std.proofs.Common.{ap}
use Rattle.osc_observers.specs.Views.{place_of, watching_of}
use Rattle.osc_observers.proofs.places.token_at.Goals as goal

pub returns-in-Some-clause-token : goal.returns-in-Some-clause-token
returns-in-Some-clause-token c = (watching_of c.in-Some.watch, ap place_of c.in-Some.is, c.as_slice.ensures.value)
