use Rattle.osc_peer_bytes.proofs.Calls.{begins_first, saves_in_list}
use Rattle.osc_peer_bytes.proofs.beginning.saved_in_list.Goals as goal

pub returns-clause-saved : goal.returns-clause-saved
returns-clause-saved c = λ done s w requests room counted runs.
    saves_in_list c.peers_by_numbers.ensures s w c.args.peer.now c.saved.new.self requests room c.args.kept.now.sender runs counted (c.saved.ensures.saved done)

pub returns-clause-begins : goal.returns-clause-begins
returns-clause-begins c = λ done some s w start size life_ms room counted is least above unsaved.
    begins_first c.peer_calls_in_list.ensures.starts s w start size life_ms room c.args.kept.now.sender c.args.peer.now c.saved.new.self counted is least above some unsaved (c.saved.ensures.saved done)
