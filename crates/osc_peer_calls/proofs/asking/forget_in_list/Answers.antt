use Rattle.osc_client.specs.ClientHistory as client
use Rattle.osc_peer_calls.proofs.CallLemmas.{listens}
use Rattle.osc_peer_calls.proofs.asking.forget_in_list.Goals as goal

pub returns : goal.returns
returns g c = λ s w counted runs.
    listens c.peer_calls_in_list.ensures.client s w c.args.peer.now c.forget.new.self runs (client.Forget c.args.token.now) (client.Forgot c.forget.result) counted tt tt
    (c.forget.ensures.answered runs.k runs.client.agrees) tt (c.forget.ensures.follows runs.k runs.client.agrees) c.forget.ensures.same
