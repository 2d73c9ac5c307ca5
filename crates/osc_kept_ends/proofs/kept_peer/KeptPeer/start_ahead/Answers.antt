use Rattle.std.proofs.Common.{◌≡◌, ◌≤◌, ◌∙◌, sym, ap, subst, arith}
use Rattle.osc_client.specs.ClientHistory.{New}
use Rattle.osc_context.specs.Views.{as_client, as_server, number_of}
use Rattle.osc_life.specs.ServerHistory.{Begin, Then, Add, Added}
use Rattle.osc_kept_ends.specs.Numbering.{upcoming}
use Rattle.osc_kept_ends.specs.PeerOwning.{own_in, received_in}
use Rattle.osc_kept_ends.specs.Peering.{ClientIsBehind, ServerIsBehind}
use Rattle.osc_kept_ends.proofs.kept_peer.KeptPeer.start_ahead.Goals as goal

pub returns-clause-begins : goal.returns-clause-begins
returns-clause-begins g c =
    let same = c.begin.ensures.source in
    let sender = number_of c.in_ok-source.first in
    let (received, mid, loads, least, rises, starts, own, allowed, failures, keeps) = c.in_ok-source.ensures.begins in
    let risen : g.R.RecordKeeper.received_floor c.args.keeper ≤ g.R.RecordKeeper.received_floor c.in_ok-source.source.keeper = rises in
    let floor : g.R.RecordKeeper.received_floor c.begin.result.source.keeper ≡ g.R.RecordKeeper.received_floor c.in_ok-source.source.keeper = ap (λ s. g.R.RecordKeeper.received_floor s.keeper) same in (
      sender,
      received,
      mid,
      c.in_ok-source.start,
      loads,
      least,
      omega (arith, risen, floor),
      starts,
      ap own_in same ∙ own,
      allowed,
      ap (λ s. g.R.RecordKeeper.failures s.keeper) same ∙ failures,
      subst (λ s. ServerIsBehind c.begin.result.server (upcoming (own_in s)) (Then Begin (Add (as_server c.args.context) c.in_ok-source.start c.args.size 1) (Added 0))) (sym same) c.begin.ensures.server,
      subst (λ s. ClientIsBehind c.begin.result.client (upcoming (own_in s)) (New (as_client c.args.context) sender c.args.life_ms)) (sym same) c.begin.ensures.client,
      ap received_in same ∙ keeps,
    )
