use Rattle.std.proofs.Common.{inl, inr, length}
use Rattle.osc_coap.specs.Views.{parts_of}
use Rattle.osc_life.specs.LifeAnswer.{asks_own}
use Rattle.osc_life.specs.ServerHistory.{Reply}
use Rattle.osc_life.specs.Views.{values_of}
use Rattle.osc_endpoint.specs.Views.{server_entry}
use Rattle.osc_kept_ends.proofs.PeerSteps.{kept_behind}
use Rattle.osc_peers.specs.Peers.{back}
use Rattle.osc_peers.specs.Roles.{turned}
use Rattle.osc_peer_calls.proofs.CallLemmas.{answers_after, one_err, reply_trusts, reply_under, runs_still, serves}
use Rattle.osc_peer_calls.proofs.HeardEchoes.{no_echo}
use Rattle.osc_peer_calls.proofs.echoing.reply_without_echo_in_list.Goals as goal

pub returns-clause-answered : goal.returns-clause-answered
returns-clause-answered g c = λ none worked s w counted runs held.
    let (h, passes, step) = c.reply_without_echo.ensures.answered none worked runs.h runs.server in
    let t = values_of c.args.ticket in
    let entry = server_entry c.reply_without_echo.result c.reply_without_echo.new.out in
    answers_after c.peer_calls_in_list.ensures.server s w c.args.peer.now c.reply_without_echo.new.peer runs h (Reply t (asks_own t c.args.own) c.args.mid (parts_of c.args.plain.now) (length c.args.out.now)) entry
    counted (inr passes) tt (inl (no_echo (parts_of c.args.plain.now) none)) step.row (serves _ _ _ _ _ _ step) (reply_trusts (turned s) (back w) runs.h t (asks_own t c.args.own) c.args.mid (parts_of c.args.plain.now) (length c.args.out.now) entry (held runs.h runs.runs.server_is))
    (kept_behind _ _ _ step.kept) c.reply_without_echo.ensures.client (reply_under c.reply_without_echo.result c.reply_without_echo.new.out _)

pub returns-clause-unchanged : goal.returns-clause-unchanged
returns-clause-unchanged g c = one_err c.reply_without_echo.result (λ e failed bad s w runs. let x = failed bad in runs_still s w c.args.peer.now c.reply_without_echo.new.peer x.0 c.reply_without_echo.ensures.client x.1 runs) c.reply_without_echo.ensures.failed

pub returns-clause-failed : goal.returns-clause-failed
returns-clause-failed g c = one_err c.reply_without_echo.result (λ e failed bad. (failed bad).2) c.reply_without_echo.ensures.failed
