use Rattle.std.proofs.lemmas.Option.{IfSome_then}
use Rattle.osc_client.specs.ClientHistory.{Datagram, Took}
use Rattle.osc_peer_bytes.proofs.Calls.{asks_after}
use Rattle.osc_peer_bytes.proofs.asking.decide_response_bytes_in_list.Goals as goal

pub returns-clause-answered : goal.returns-clause-answered
returns-clause-answered g c = IfSome_then c.decide_response.result c.decide_response.ensures.answered (λ it answered s w counted runs forges.
    let x = answered runs.a runs.own runs.asks in (
      x.answer,
      x.decides,
      asks_after c.peer_calls_in_list.ensures.client s w c.args.peer.now c.decide_response.new.self _ _ _ runs (Datagram c.args.now c.args.datagram.now) (Took x.answer) counted tt x.step
          (forges runs.a runs.runs.client_is),
    ))
