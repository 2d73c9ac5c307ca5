use Rattle.osc_peer_handle.proofs.AskSteps.{caught_up_asking, forgot, parts_of_peer}
use Rattle.osc_peer_handle.proofs.peer_handle.PeerHandle.forget.Goals as goal

pub returns-clause-answered : goal.returns-clause-answered
returns-clause-answered g c = λ a old w.
    let p = c.args.self.now in
    let requests = g.W.Waiting.requests c.args.pending.now in
    let later = g.W.Waiting.requests c.forget_in.new.pending in
    let room = g.W.Waiting.room c.args.pending.now in
    let (b, passes, agrees) = caught_up_asking p requests room old a w in
    let parts = parts_of_peer p requests in
    forgot p room old a b c.args.token.now c.forget_in.result requests later w passes agrees (c.forget_in.ensures.answered room parts b agrees) (c.forget_in.ensures.follows parts b agrees)
    (c.forget_in.ensures.apart w.differ)
