use Rattle.std.proofs.Common.{refl}
use Rattle.osc_life.specs.ServerHistory as server
use Rattle.osc_kept.proofs.CallsInWorld.{lawful_by_numbers, upcoming_small}
use Rattle.osc_kept.proofs.in_world.take_counted_in_world.Goals as goal

pub returns-clause-answered : goal.returns-clause-answered
returns-clause-answered g c = λ worked n s w kept numbered runs forges.
    let (h, ran, is) = runs in
    let took = c.take_counted.ensures.answered worked h is in
    let unseen = c.echo_by_numbers.ensures.unseen n s w h _ (lawful_by_numbers n s w kept numbered) ran.history_is is.next_is (upcoming_small c.args.server.now.source) in
    let on = c.kept_ends_in_world.ensures.server n s w h _ _ _ _ kept ran tt took.step.row took.step.numbers (forges, unseen) in
    let still = c.echo_by_numbers.ensures.goes_on n s w on.0 h _ _ _ _ _ _ _ kept.lawful.answers numbered ran.history_is is.next_is took.step.row on.1 in
    (took.answer, took.shows, on.0, on.1, on.2, (_, on.3, took.step.kept), on.4, still)

pub returns-clause-clock_alone : goal.returns-clause-clock_alone
returns-clause-clock_alone g c = λ bad n s w lawful runs.
    let on = c.kept_ends_in_world.ensures.server n s w runs.0 (server.Advance _) server.Advanced _ _ lawful runs.1 tt tt (_, refl, (tt, (c.take_counted.ensures.unchanged bad).0)) tt in
    (on.0, on.1, on.2, (_, on.3, c.take_counted.ensures.clock_alone bad runs.0 runs.2), on.4)
