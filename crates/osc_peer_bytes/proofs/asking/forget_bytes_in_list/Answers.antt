use Rattle.std.proofs.lemmas.Option.{IfSome_then}
use Rattle.osc_client.specs.ClientHistory.{Forget, Forgot}
use Rattle.osc_peer_bytes.proofs.Calls.{asks_after}
use Rattle.osc_peer_bytes.proofs.asking.forget_bytes_in_list.Goals as goal

pub returns-clause-answered : goal.returns-clause-answered
returns-clause-answered g c = IfSome_then c.forget.result c.forget.ensures.answered (λ was answered s w counted runs.
    asks_after c.peer_calls_in_list.ensures.client s w c.args.peer.now c.forget.new.self _ _ _ runs (Forget c.args.token.now) (Forgot was) counted tt (answered runs.a runs.own runs.asks) tt)
