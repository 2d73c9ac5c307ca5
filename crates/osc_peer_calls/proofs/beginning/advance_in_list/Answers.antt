use Rattle.osc_peer_calls.proofs.CallLemmas.{advances}
use Rattle.osc_peer_calls.proofs.beginning.advance_in_list.Goals as goal

pub returns : goal.returns
returns g c = λ s w counted runs.
    advances c.peer_calls_in_list.ensures.server c.peer_calls_in_list.ensures.client s w c.args.peer.now c.advance.new.self runs c.args.now counted
    (c.advance.ensures.server runs.h runs.server.agrees) (c.advance.ensures.client runs.k runs.client.agrees) c.advance.ensures.source
