use Rattle.osc_kept.proofs.RunsInWorld.{client_run_in_world, server_run_in_world}
use Rattle.osc_kept.proofs.laws.kept_runs_in_world.Goals as goal

pub returns : goal.returns
returns g c = record { server = server_run_in_world c.both_ends.ensures g.K.Keeper; client = client_run_in_world c.both_ends.ensures g.K.Keeper }
