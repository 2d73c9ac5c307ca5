use Rattle.std.proofs.Common.{refl}
use Rattle.osc_life.specs.ServerHistory as server
use Rattle.osc_kept.proofs.in_world.take_in_world.Goals as goal

pub returns-clause-answered : goal.returns-clause-answered
returns-clause-answered g c = λ worked n s w lawful runs forges unseen.
    let took = c.take.ensures.answered worked runs.0 runs.2 in
    let on = c.kept_ends_in_world.ensures.server n s w runs.0 _ _ _ _ lawful runs.1 tt took.step.row took.step.numbers (forges, unseen) in
    (took.answer, took.shows, (on.0, on.1, on.2, (_, on.3, took.step.kept), on.4))

pub returns-clause-clock_alone : goal.returns-clause-clock_alone
returns-clause-clock_alone g c = λ bad n s w lawful runs.
    let on = c.kept_ends_in_world.ensures.server n s w runs.0 (server.Advance _) server.Advanced _ _ lawful runs.1 tt tt (_, refl, (tt, (c.take.ensures.unchanged bad).0)) tt in
    (on.0, on.1, on.2, (_, on.3, c.take.ensures.clock_alone bad runs.0 runs.2), on.4)
