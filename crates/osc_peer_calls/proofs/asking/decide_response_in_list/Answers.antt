use Rattle.osc_client.specs.ClientHistory as client
use Rattle.osc_peer_calls.proofs.CallLemmas.{listens}
use Rattle.osc_peer_calls.proofs.asking.decide_response_in_list.Goals as goal

pub returns : goal.returns
returns g c = λ s w counted runs forges.
    let decided = c.decide_response.ensures.answered runs.k runs.client.agrees in (
      decided.answer,
      decided.decides,
      listens c.peer_calls_in_list.ensures.client s w c.args.peer.now c.decide_response.new.self runs (client.Datagram c.args.now c.args.datagram.now) (client.Took decided.answer)
          counted tt tt decided.row (forges runs.k runs.runs.client_is) decided.agrees c.decide_response.ensures.same,
    )
