use Rattle.std.proofs.Common.{◌∙◌}
use Rattle.osc_peer_handle.proofs.Beginning.{saves_more, saves_same}
use Rattle.osc_peer_handle.proofs.peer_handle.PeerHandle.saved.Goals as goal
use Rattle.osc_peer_handle.proofs.peer_handle.PeerHandle.saved.Goals.{then-kept-self-3+in-Some+else-kept-wanted, else-kept-self-3}

pub returns-clause-saved : goal.returns-clause-saved
returns-clause-saved c = λ done o has. elim c.if-kept-self-3.branch [
  | then-kept-self-3+in-Some+else-kept-wanted w ↦
      saves_more c.args.self.now o c.args.kept.now.sender c.args.kept.now.received c.args.kept.now.generation w.in-Some.ensures.refused.1 (w.if-kept-wanted.false ∙ w.in-Some.ensures.refused.0) c.if-kept-gt-NUMBER_LIMIT.false has
  | else-kept-self-3 w ↦ saves_same c.args.self.now o c.args.kept.now.sender c.args.kept.now.received c.args.kept.now.generation w.if-kept-self-3.false c.if-kept-gt-NUMBER_LIMIT.false has
]
