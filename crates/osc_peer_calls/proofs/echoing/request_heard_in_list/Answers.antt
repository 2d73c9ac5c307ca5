use Rattle.std.proofs.Common.{inl, inr, length, refl}
use Rattle.osc_coap.specs.Views.{parts_of}
use Rattle.osc_client.specs.ClientHistory as client
use Rattle.osc_client.specs.Views.{request_entry}
use Rattle.osc_kept_ends.specs.PeerOwning.{own_in}
use Rattle.osc_fresh.specs.Views.{heard_of}
use Rattle.osc_kept_ends.proofs.PeerSteps.{asked_behind}
use Rattle.osc_peer_calls.proofs.CallLemmas.{asks, asks_after, idle, one_err}
use Rattle.osc_peer_calls.proofs.HeardEchoes.{only_heard}
use Rattle.osc_peer_calls.proofs.echoing.request_heard_in_list.Goals as goal

pub returns-clause-answered : goal.returns-clause-answered
returns-clause-answered g c = λ only worked s w counted runs was.
    let (k, passes, step) = c.request.ensures.answered only worked runs.k runs.client in
    asks_after c.peer_calls_in_list.ensures.client s w c.args.peer.now c.request.new.peer runs k (client.Request c.args.now (parts_of c.args.plain.now) (length c.args.out.now))
    (request_entry c.request.result c.request.new.out) counted (inr passes) tt step.row (asks _ _ _ _ _ _ step)
    (only_heard w (parts_of c.args.plain.now) c.args.now (length c.args.out.now) (heard_of c.args.heard.now) (request_entry c.request.result c.request.new.out) only was) (asked_behind _ _ _ step.kept) c.request.ensures.server

pub returns-clause-clock_alone : goal.returns-clause-clock_alone
returns-clause-clock_alone g c = one_err c.request.result (λ e failed bad s w counted runs.
    let (same, behind, count) = failed bad in
    asks_after c.peer_calls_in_list.ensures.client s w c.args.peer.now c.request.new.peer runs runs.k (client.Advance c.args.now) client.Advanced counted (inl refl) tt tt
    (idle (own_in c.args.peer.now.source) (own_in c.request.new.peer.source) same) tt (behind runs.k runs.client) c.request.ensures.server) c.request.ensures.failed

pub returns-clause-failed : goal.returns-clause-failed
returns-clause-failed g c = one_err c.request.result (λ e failed bad. (failed bad).2) c.request.ensures.failed
