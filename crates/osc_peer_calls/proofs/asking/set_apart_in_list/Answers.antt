use Rattle.osc_client.specs.ClientHistory as client
use Rattle.osc_client.specs.Views.{apart_among}
use Rattle.osc_peer_calls.proofs.CallLemmas.{listens}
use Rattle.osc_peer_calls.proofs.asking.set_apart_in_list.Goals as goal

pub returns : goal.returns
returns g c = λ s w counted runs.
    listens c.peer_calls_in_list.ensures.client s w c.args.peer.now c.set_apart.new.self runs (client.SetApart (apart_among g.row.N c.args.registrations)) client.IsSetApart counted tt tt
    tt tt (c.set_apart.ensures.follows runs.k runs.client.agrees) c.set_apart.ensures.same
