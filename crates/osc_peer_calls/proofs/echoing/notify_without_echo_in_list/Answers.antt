use Rattle.std.proofs.Common.{inr, length}
use Rattle.osc_coap.specs.Views.{parts_of}
use Rattle.osc_life.specs.ServerHistory.{Notify}
use Rattle.osc_life.specs.Views.{reply_entry, values_of}
use Rattle.osc_kept_ends.proofs.PeerSteps.{kept_behind}
use Rattle.osc_peers.specs.Peers.{back}
use Rattle.osc_peers.specs.Roles.{turned}
use Rattle.osc_peer_calls.proofs.CallLemmas.{answers_after, notify_trusts, notify_under, one_err, runs_still, serves}
use Rattle.osc_peer_calls.proofs.HeardEchoes.{no_echo_notified}
use Rattle.osc_peer_calls.proofs.echoing.notify_without_echo_in_list.Goals as goal

pub returns-clause-answered : goal.returns-clause-answered
returns-clause-answered g c = λ none worked s w counted runs held.
    let (h, passes, step) = c.notify_without_echo.ensures.answered none worked runs.h runs.server in
    let t = values_of c.args.ticket.now in
    let entry = reply_entry c.notify_without_echo.result c.notify_without_echo.new.out in
    answers_after c.peer_calls_in_list.ensures.server s w c.args.peer.now c.notify_without_echo.new.peer runs h (Notify t (parts_of c.args.plain.now) (length c.args.out.now)) entry
    counted (inr passes) tt (no_echo_notified (parts_of c.args.plain.now) none) step.row (serves _ _ _ _ _ _ step) (notify_trusts (turned s) (back w) runs.h t (parts_of c.args.plain.now) (length c.args.out.now) entry (held runs.h runs.runs.server_is))
    (kept_behind _ _ _ step.kept) c.notify_without_echo.ensures.client (notify_under c.notify_without_echo.result c.notify_without_echo.new.out _)

pub returns-clause-unchanged : goal.returns-clause-unchanged
returns-clause-unchanged g c = one_err c.notify_without_echo.result (λ e failed bad s w runs. let x = failed bad in runs_still s w c.args.peer.now c.notify_without_echo.new.peer x.0 c.notify_without_echo.ensures.client x.1 runs) c.notify_without_echo.ensures.failed

pub returns-clause-failed : goal.returns-clause-failed
returns-clause-failed g c = one_err c.notify_without_echo.result (λ e failed bad. (failed bad).2) c.notify_without_echo.ensures.failed
