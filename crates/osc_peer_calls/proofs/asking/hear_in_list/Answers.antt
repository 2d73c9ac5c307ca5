use Rattle.osc_client.specs.ClientHistory as client
use Rattle.osc_peer_calls.proofs.CallLemmas.{listens}
use Rattle.osc_peer_calls.proofs.asking.hear_in_list.Goals as goal

pub returns : goal.returns
returns g c = λ s w counted runs forges.
    let took = c.hear.ensures.answered runs.k runs.client.agrees in (
      took.answer,
      took.shows,
      listens c.peer_calls_in_list.ensures.client s w c.args.peer.now c.hear.new.self runs (client.Datagram c.args.now c.args.datagram.now) (client.Took took.answer) counted tt tt
          took.row (forges runs.k runs.runs.client_is) took.agrees c.hear.ensures.same,
    )
