use Rattle.std.proofs.Common.{length}
use Rattle.osc_coap.specs.Views.{parts_of}
use Rattle.osc_life.specs.LifeAnswer.{asks_own}
use Rattle.osc_life.specs.ServerHistory.{Reply}
use Rattle.osc_endpoint.specs.Views.{server_entry}
use Rattle.osc_life.specs.Views.{values_of}
use Rattle.osc_kept.proofs.CallsInWorld.{both_err, runs_still}
use Rattle.osc_kept.proofs.InWorld.{reply_trusts}
use Rattle.osc_kept.proofs.in_world.reply_in_world.Goals as goal

pub returns-clause-answered : goal.returns-clause-answered
returns-clause-answered g c = λ worked n s w lawful runs held.
    let v = values_of c.args.ticket in
    let own = asks_own v c.args.own in
    let step = c.reply.ensures.answered worked runs.0 runs.2 in
    let trusts = reply_trusts s w runs.0 v own c.args.mid (parts_of c.args.plain.now) (length c.args.out.now) (server_entry c.reply.result c.reply.new.out) (held runs.0 runs.1.history_is) in
    let on = c.kept_ends_in_world.ensures.server n s w runs.0 (Reply v own c.args.mid (parts_of c.args.plain.now) (length c.args.out.now)) _ _ _ lawful runs.1 tt step.row step.numbers trusts in
    (on.0, on.1, on.2, (_, on.3, step.kept), on.4)

pub returns-clause-unchanged : goal.returns-clause-unchanged
returns-clause-unchanged g c =
    both_err c.reply.result (λ e failed same bad s w runs. runs_still s w c.args.server.now c.reply.new.self same.1 (failed bad).0 runs)
    c.reply.ensures.failed c.reply.ensures.unchanged
