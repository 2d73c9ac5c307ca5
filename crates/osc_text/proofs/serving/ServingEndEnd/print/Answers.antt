use Rattle.std.proofs.Common.{[], ◌<◌, ◌≤◌, ap, length, rules}
use Rattle.std.proofs.lemmas.Result.{err_from_is_err_and}
use Rattle.osc_endpoint.specs.Agrees.{Agrees}
use Rattle.osc_endpoint.specs.ServerRun.{values_in}
use Rattle.osc_text.specs.ReplaceReading.{IsServed, served_seen}
use Rattle.osc_text.specs.RunEnds.{serving_state}
use Rattle.osc_text.specs.Serving.{ServerLine}
use Rattle.osc_text.proofs.EachLines.{each_failed, each_over, each_preserved, none_each}
use Rattle.osc_text.proofs.serving.ServingEndEnd.print.Goals as goal

pub loop-event-init : goal.loop-event-init
loop-event-init g c = none_each served_seen IsServed ServerLine (Agrees c.args.self.now.server) (serving_state c.args.self.now []) (serving_state c.args.self.now (values_in c.new-memory.result.items)) c.args.events.now (g.W.Write.contents c.args.out.now)
    (λ h. ap (λ items. serving_state c.args.self.now (values_in items) h) c.new-memory.ensures.items)

pub loop-event-preserved : goal.loop-event-preserved
loop-event-preserved g c =
    let inside : c.loop-event.event-index < length c.loop-event.events = search rules in
    each_preserved served_seen IsServed ServerLine (Agrees c.args.self.now.server) (Agrees c.loop-event.self.server) (serving_state c.args.self.now []) (serving_state c.loop-event.self (values_in c.loop-event.memory.items)) c.args.events.now c.loop-event.events
    (g.W.Write.contents c.args.out.now) (g.W.Write.contents c.loop-event.out) c.loop-event.event-index c.loop-event.invariant (Agrees c.follow_line.new.end.server) (serving_state c.follow_line.new.end (values_in c.follow_line.new.memory.items)) c.event-item.result c.follow_line.new.line
    (g.W.Write.contents c.follow_line.new.out) inside c.in_ok-follow_line.ensures

pub returns-in_err-follow_line : goal.returns-in_err-follow_line
returns-in_err-follow_line g c =
    let p = err_from_is_err_and c.from_residual.result c.from_residual.ensures.1 in
    let inside : c.loop-event.event-index < length c.loop-event.events = search rules in
    rw (p.1, p.2) (each_failed served_seen IsServed ServerLine (Agrees c.args.self.now.server) (Agrees c.loop-event.self.server) (serving_state c.args.self.now []) (serving_state c.loop-event.self (values_in c.loop-event.memory.items)) c.args.events.now c.loop-event.events
    (g.W.Write.contents c.args.out.now) (g.W.Write.contents c.loop-event.out) c.loop-event.event-index c.loop-event.invariant (Agrees c.follow_line.new.end.server) (serving_state c.follow_line.new.end (values_in c.follow_line.new.memory.items)) c.event-item.result c.follow_line.new.line
    (g.W.Write.contents c.follow_line.new.out) inside c.in_err-follow_line.field-0.0 c.in_err-follow_line.ensures)

pub returns : goal.returns
returns g c =
    let over : length c.loop-event.events ≤ c.loop-event.event-index = search rules in
    each_over served_seen IsServed ServerLine (Agrees c.args.self.now.server) (Agrees c.loop-event.self.server) (serving_state c.args.self.now []) (serving_state c.loop-event.self (values_in c.loop-event.memory.items)) c.args.events.now c.loop-event.events
    (g.W.Write.contents c.args.out.now) (g.W.Write.contents c.loop-event.out) c.loop-event.event-index c.loop-event.invariant over
