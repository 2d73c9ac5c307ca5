use Rattle.std.proofs.Common.{◌≤◌, ℕ, subst, []}
use Rattle.osc_client.specs.ClientHistory as asked
use Rattle.osc_life.specs.ServerHistory as served
use Rattle.osc_life.specs.declared.start.Start.{Start}
use Rattle.osc_context_handle.specs.ContextBytes.{client_in, server_in}
use Rattle.osc_kept_ends.specs.Numbering.{Load, after, nothing_drawn}
use Rattle.osc_kept_ends.specs.Peering.{IsPeerStart}
use Rattle.osc_peer_handle.specs.PeerBytes.{AsksBehind, ServesBehind}
use Rattle.osc_peer_handle.proofs.peer_handle.PeerHandle.begin_again.Goals as goal

pub returns-clause-server : goal.returns-clause-server
returns-clause-server c =
    subst (λ n. (start : Start) × IsPeerStart 0 start n c.args.kept.now.received × ((floor : ℕ) → floor ≤ n → ServesBehind c.in-Some-begin.peer (after (Load n) (nothing_drawn floor))
    (served.Then served.Begin (served.Add (server_in c.args.context.now) start c.args.size 1) (served.Added 0)))) c.in-Some.ensures.made c.in-Some-begin.ensures.server

pub returns-clause-client : goal.returns-clause-client
returns-clause-client c =
    subst (λ n. (floor room : ℕ) → floor ≤ n → AsksBehind c.in-Some-begin.peer [] room (after (Load n) (nothing_drawn floor)) (asked.New (client_in c.args.context.now) n c.args.life_ms))
    c.in-Some.ensures.made c.in-Some-begin.ensures.client
