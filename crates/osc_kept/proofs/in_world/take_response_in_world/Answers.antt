use Rattle.osc_kept.proofs.CallsInWorld.{client_after}
use Rattle.osc_kept.proofs.in_world.take_response_in_world.Goals as goal

pub returns : goal.returns
returns g c = record {
  answered = λ s w lawful runs forges.
      let took = c.take.ensures.answered runs.0 runs.2 in
      let on = c.kept_ends_in_world.ensures.client _ s w runs.0 _ _ _ _ lawful runs.1 took.step.row took.step.numbers (forges runs.0 runs.1.history_is) in
      (took.answer, took.shows, client_after s w on.0 runs.0 _ _ c.args.client.now c.take.new.self c.take.ensures.source on.1 on.2 on.3 on.4 took.step.kept);
}
