use Rattle.osc_kept.proofs.InWorld.{client_in_world, client_starts, server_in_world, server_starts}
use Rattle.osc_kept.proofs.laws.kept_ends_in_world.Goals as goal

pub returns : goal.returns
returns c = record {
  server = server_in_world c.both_ends.ensures;
  client = client_in_world c.both_ends.ensures;
  server_starts = server_starts c.both_ends.ensures;
  client_starts = client_starts c.both_ends.ensures;
}
