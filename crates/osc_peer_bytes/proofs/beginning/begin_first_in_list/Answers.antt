use Rattle.osc_peer_bytes.proofs.Calls.{both_some}
use Rattle.osc_peer_bytes.proofs.beginning.begin_first_in_list.Goals as goal

pub returns-clause-begins : goal.returns-clause-begins
returns-clause-begins c = both_some c.begin_first.result (λ p server client. (server.0, server.1, λ floor room least. (server.2 floor least, client floor room least)))
    c.begin_first.ensures.server c.begin_first.ensures.client
