use Rattle.std.proofs.Common.{refl}
use Rattle.osc_client.specs.ClientHistory as client
use Rattle.osc_kept.proofs.in_world.request_in_world.Goals as goal

pub returns-clause-answered : goal.returns-clause-answered
returns-clause-answered g c = λ worked s w lawful runs.
    let step = c.request.ensures.answered worked runs.0 runs.2 in
    let on = c.kept_ends_in_world.ensures.client _ s w runs.0 _ _ _ _ lawful runs.1 step.row step.numbers tt in
    (on.0, on.1, on.2, (_, on.3, step.kept), on.4)

pub returns-clause-clock_alone : goal.returns-clause-clock_alone
returns-clause-clock_alone g c = λ bad s w lawful runs.
    let failed = c.request.ensures.failed bad in
    let on = c.kept_ends_in_world.ensures.client _ s w runs.0 (client.Advance _) client.Advanced _ _ lawful runs.1 tt (_, refl, (tt, failed.0)) tt in
    (on.0, on.1, on.2, (_, on.3, failed.2 runs.0 runs.2), on.4)

pub returns-clause-failed : goal.returns-clause-failed
returns-clause-failed g c = λ bad. (c.request.ensures.failed bad).1
