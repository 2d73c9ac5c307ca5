use Rattle.std.proofs.Common.{◌<◌, ℕ}
use Rattle.osc_protect.specs.Views.{shown}
use Rattle.osc_c.specs.PeerFinding.{HoldsAt, answering}
use Rattle.osc_c.proofs.peer_finding.index_of.Given as goal

abbrev pub invariant-loop-index : goal.invariant-loop-index
invariant-loop-index l = (i : ℕ) → i < l.index → HoldsAt l.peers i (answering l.kid (shown l.kid_context)) → ⊥
