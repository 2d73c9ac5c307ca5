use Rattle.std.proofs.Common.{inl, inr, length, refl}
use Rattle.osc_coap.specs.Views.{parts_of}
use Rattle.osc_client.specs.ClientHistory as client
use Rattle.osc_kept_ends.specs.PeerOwning.{own_in}
use Rattle.osc_fresh.specs.Views.{heard_of}
use Rattle.osc_fresh.specs.WithEcho.{echoing}
use Rattle.osc_fresh.proofs.Dues.{only_due}
use Rattle.osc_kept_ends.proofs.PeerSteps.{asked_behind}
use Rattle.osc_peer_calls.proofs.CallLemmas.{asks, asks_after, idle}
use Rattle.osc_peer_calls.proofs.HeardEchoes.{only_heard}
use Rattle.osc_peer_calls.proofs.echoing.request_with_echo_in_list.Goals as goal

pub returns-clause-answered : goal.returns-clause-answered
returns-clause-answered g c = λ none worked entry is s w counted runs was.
    let p = parts_of c.args.plain.now in
    let heard = heard_of c.args.heard.now in
    let (k, passes, step) = c.request_with_echo.ensures.answered none worked entry is runs.k runs.client in
    asks_after c.peer_calls_in_list.ensures.client s w c.args.peer.now c.request_with_echo.new.peer runs k (client.Request c.args.now (echoing heard p) (length c.args.out.now))
    entry counted (inr passes) tt step.row (asks _ _ _ _ _ _ step)
    (only_heard w (echoing heard p) c.args.now (length c.args.out.now) heard entry (only_due heard p none) was) (asked_behind _ _ _ step.kept) c.request_with_echo.ensures.server

pub returns-clause-clock_alone : goal.returns-clause-clock_alone
returns-clause-clock_alone g c = λ bad s w counted runs.
    let (same, behind, count) = c.request_with_echo.ensures.failed bad in
    asks_after c.peer_calls_in_list.ensures.client s w c.args.peer.now c.request_with_echo.new.peer runs runs.k (client.Advance c.args.now) client.Advanced counted (inl refl) tt tt
    (idle (own_in c.args.peer.now.source) (own_in c.request_with_echo.new.peer.source) same) tt (behind runs.k runs.client) c.request_with_echo.ensures.server

pub returns-clause-failed : goal.returns-clause-failed
returns-clause-failed g c = λ bad. (c.request_with_echo.ensures.failed bad).2
