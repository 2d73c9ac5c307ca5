use Rattle.std.proofs.Common.{length}
use Rattle.osc_coap.specs.Views.{parts_of}
use Rattle.osc_life.specs.Views.{reply_entry, values_of}
use Rattle.osc_kept.proofs.CallsInWorld.{both_err, runs_still}
use Rattle.osc_kept.proofs.InWorld.{notify_trusts}
use Rattle.osc_kept.proofs.in_world.notify_in_world.Goals as goal

pub returns-clause-answered : goal.returns-clause-answered
returns-clause-answered g c = λ worked n s w lawful runs held.
    let step = c.notify.ensures.answered worked runs.0 runs.2 in
    let trusts = notify_trusts s w runs.0 (values_of c.args.ticket.now) (parts_of c.args.plain.now) (length c.args.out.now) (reply_entry c.notify.result c.notify.new.out) (held runs.0 runs.1.history_is) in
    let on = c.kept_ends_in_world.ensures.server n s w runs.0 _ _ _ _ lawful runs.1 tt step.row step.numbers trusts in
    (on.0, on.1, on.2, (_, on.3, step.kept), on.4)

pub returns-clause-unchanged : goal.returns-clause-unchanged
returns-clause-unchanged g c =
    both_err c.notify.result (λ e failed same bad s w runs. runs_still s w c.args.server.now c.notify.new.self same.1 (failed bad).0 runs)
    c.notify.ensures.failed c.notify.ensures.unchanged
