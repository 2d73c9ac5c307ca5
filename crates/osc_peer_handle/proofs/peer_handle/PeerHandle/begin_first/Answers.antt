use Rattle.std.proofs.Common.{◌≤◌, ℕ, subst}
use Rattle.std.specs.Prelude.{IfSome}
use Rattle.osc_life.specs.ServerHistory as served
use Rattle.osc_life.specs.declared.start.Start.{Start}
use Rattle.osc_context_handle.specs.ContextBytes.{server_in}
use Rattle.osc_kept_ends.specs.Numbering.{Load, after, nothing_drawn}
use Rattle.osc_kept_ends.specs.Peering.{IsPeerStart}
use Rattle.osc_peer_handle.specs.PeerBytes.{ServesBehind}
use Rattle.osc_peer_handle.proofs.peer_handle.PeerHandle.begin_first.Goals as goal

pub returns-clause-server : goal.returns-clause-server
returns-clause-server c =
    subst (λ n. IfSome c.begin.result (λ p. (start : Start) × IsPeerStart 0 start n 0 × ((floor : ℕ) → floor ≤ n → ServesBehind p (after (Load n) (nothing_drawn floor))
    (served.Then served.Begin (served.Add (server_in c.args.context.now) start c.args.size 1) (served.Added 0))))) c.in-Some.ensures.made c.begin.ensures.server
