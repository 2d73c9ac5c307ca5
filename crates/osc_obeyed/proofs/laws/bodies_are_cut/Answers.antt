use Rattle.osc_obeyed.proofs.Joining.{request_bodies, response_bodies}
use Rattle.osc_obeyed.proofs.laws.bodies_are_cut.Goals as goal

pub returns : goal.returns
returns c = record {
  request = request_bodies c.both_ends.ensures c.joined_is_cut.ensures;
  response = response_bodies c.both_ends.ensures c.joined_is_cut.ensures;
}
