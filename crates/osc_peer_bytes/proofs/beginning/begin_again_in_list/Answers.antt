use Rattle.std.proofs.Common.{arith}
use Rattle.osc_context_handle.specs.ContextBytes.{client_in}
use Rattle.osc_peer_bytes.proofs.Calls.{begins_loaded, three_ok}
use Rattle.osc_peer_bytes.proofs.beginning.begin_again_in_list.Goals as goal

pub returns-clause-begins : goal.returns-clause-begins
returns-clause-begins c = three_ok c.begin_again.result (λ p server client accepted. (
  server.0,
  server.1,
  λ some w room counted least above.
      begins_loaded c.peer_calls_in_list.ensures.starts (client_in c.args.context.now) w server.0 c.args.size c.args.kept.now.sender c.args.kept.now.received c.args.life_ms room p counted server.1 some
      accepted.2 least above (server.2 0 (omega arith)) (client 0 room (omega arith)),
))
    c.begin_again.ensures.server c.begin_again.ensures.client c.begin_again.ensures.accepted
