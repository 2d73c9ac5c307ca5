use Rattle.osc_kept.proofs.in_world.run_server_in_world.Goals as goal

pub returns-clause-run : goal.returns-clause-run
returns-clause-run g c = λ n s w lawful runs.
    let ran = c.run_kept_server_on.ensures.run runs.0 runs.2 in (
      runs.0,
      runs.1.history_is,
      ran.0,
      ran.1,
      ran.2,
      ran.3,
      λ trusts. c.kept_runs_in_world.ensures.server n s w runs.0 _ _ _ _ ran.2 lawful runs.1 trusts,
    )
