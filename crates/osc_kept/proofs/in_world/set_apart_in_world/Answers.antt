use Rattle.osc_kept.proofs.CallsInWorld.{client_after}
use Rattle.osc_kept.proofs.in_world.set_apart_in_world.Goals as goal

pub returns : goal.returns
returns g c = record {
  answered = λ s w lawful runs.
      let step = c.set_apart.ensures.answered runs.0 runs.2 in
      let on = c.kept_ends_in_world.ensures.client _ s w runs.0 _ _ _ _ lawful runs.1 step.row step.numbers tt in
      client_after s w on.0 runs.0 _ _ c.args.client.now c.set_apart.new.self c.set_apart.ensures.source on.1 on.2 on.3 on.4 step.kept;
}
