use Rattle.std.proofs.Common.{ℕ, inr, length, true}
use Rattle.osc_life.specs.LifeAnswer.{asks_own}
use Rattle.osc_life.specs.ServerHistory.{Reply}
use Rattle.osc_life.specs.Views.{values_of}
use Rattle.osc_endpoint.specs.Views.{server_entry}
use Rattle.osc_kept_ends.specs.EchoNumber.{echo_of}
use Rattle.osc_kept_ends.specs.Numbering.{upcoming}
use Rattle.osc_kept_ends.specs.PeerOwning.{own_in}
use Rattle.osc_kept_ends.proofs.PeerSteps.{kept_behind}
use Rattle.osc_fresh.specs.Wishing.{unobeyed_message}
use Rattle.osc_peers.specs.Peers.{back}
use Rattle.osc_peers.specs.Roles.{turned}
use Rattle.osc_peer_calls.proofs.CallLemmas.{answers_after, one_err, reply_trusts, reply_under, runs_still, serves}
use Rattle.osc_peer_calls.proofs.FreshCalls.{asked, says}
use Rattle.osc_peer_calls.proofs.challenging.challenge_in_list.Goals as goal

pub returns-clause-answered : goal.returns-clause-answered
returns-clause-answered g c = λ worked s w counted runs held.
    let (h, passes, step) = c.challenge.ensures.answered worked runs.h runs.server in
    let t = values_of c.args.ticket in
    let n : ℕ = upcoming (own_in c.args.peer.now.source) in
    let p = unobeyed_message (echo_of n) in
    let entry = server_entry c.challenge.result c.challenge.new.out in
    answers_after c.peer_calls_in_list.ensures.server s w c.args.peer.now c.challenge.new.peer runs h (Reply t (asks_own t true) c.args.mid p (length c.args.out.now)) entry
    counted (inr passes) tt (inr (asked t, says n)) step.row (serves _ _ _ _ _ _ step) (reply_trusts (turned s) (back w) runs.h t (asks_own t true) c.args.mid p (length c.args.out.now) entry (held runs.h runs.runs.server_is))
    (kept_behind _ _ _ step.kept) c.challenge.ensures.client (reply_under c.challenge.result c.challenge.new.out _)

pub returns-clause-unchanged : goal.returns-clause-unchanged
returns-clause-unchanged g c = one_err c.challenge.result (λ e failed bad s w runs. let x = failed bad in runs_still s w c.args.peer.now c.challenge.new.peer x.0 c.challenge.ensures.client x.1 runs) c.challenge.ensures.failed

pub returns-clause-failed : goal.returns-clause-failed
returns-clause-failed g c = one_err c.challenge.result (λ e failed bad. (failed bad).2) c.challenge.ensures.failed
