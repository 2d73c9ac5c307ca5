use Rattle.osc_kept_runs.proofs.KeptRunLemmas.{restart_step}
use Rattle.osc_kept_runs.proofs.server_run.serve_restart.Goals as goal

pub returns : goal.returns
returns g c = λ h k. restart_step h c.args.server.now.source c.restart.result c.restart.new.self.source _ _ k c.restart.ensures.begins c.restart.ensures.refused c.restart.ensures.lives_exhausted c.restart.ensures.unchanged
