use Rattle.osc_kept.proofs.CallsInWorld.{client_runs_still, no_less, on_err}
use Rattle.osc_kept.proofs.in_world.restart_client_in_world.Goals as goal

pub returns-clause-begins : goal.returns-clause-begins
returns-clause-begins g c = λ ok.
    let begun = c.restart.ensures.begins ok in (
      begun.0,
      begun.1,
      λ s w lawful runs. (
        (λ knows. no_less _ _ _ knows begun.2.0.0),
        (λ least.
            let on = c.kept_ends_in_world.ensures.client _ s w runs.0 _ _ _ _ lawful runs.1 tt begun.2 least in
            (on.0, on.1, on.2, (_, on.3, begun.3 runs.0 runs.2), on.4)),
      ),
    )

pub returns-clause-unchanged : goal.returns-clause-unchanged
returns-clause-unchanged g c =
    on_err c.restart.result (λ same s w runs. client_runs_still s w c.args.client.now c.restart.new.self same.0 same.1 runs) c.restart.ensures.unchanged
