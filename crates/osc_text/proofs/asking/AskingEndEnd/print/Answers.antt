use Rattle.std.proofs.Common.{◌<◌, ◌≤◌, length, refl, rules}
use Rattle.std.proofs.lemmas.Result.{err_from_is_err_and}
use Rattle.osc_client.specs.Agrees.{ClientAgrees}
use Rattle.osc_text.specs.Asking.{ClientLine}
use Rattle.osc_text.specs.ReplaceReading.{IsAsked, asking_seen}
use Rattle.osc_text.specs.RunEnds.{asking_state}
use Rattle.osc_text.proofs.EachLines.{each_failed, each_over, each_preserved, none_each}
use Rattle.osc_text.proofs.asking.AskingEndEnd.print.Goals as goal

pub loop-event-init : goal.loop-event-init
loop-event-init g c = none_each asking_seen IsAsked ClientLine (ClientAgrees c.args.self.now.client) (asking_state c.args.self.now) (asking_state c.args.self.now) c.args.events.now (g.W.Write.contents c.args.out.now) (λ h. refl)

pub loop-event-preserved : goal.loop-event-preserved
loop-event-preserved g c =
    let inside : c.loop-event.event-index < length c.loop-event.events = search rules in
    each_preserved asking_seen IsAsked ClientLine (ClientAgrees c.args.self.now.client) (ClientAgrees c.loop-event.self.client) (asking_state c.args.self.now) (asking_state c.loop-event.self) c.args.events.now c.loop-event.events
    (g.W.Write.contents c.args.out.now) (g.W.Write.contents c.loop-event.out) c.loop-event.event-index c.loop-event.invariant (ClientAgrees c.follow_line.new.end.client) (asking_state c.follow_line.new.end) c.event-item.result c.follow_line.new.line
    (g.W.Write.contents c.follow_line.new.out) inside c.in_ok-follow_line.ensures

pub returns-in_err-follow_line : goal.returns-in_err-follow_line
returns-in_err-follow_line g c =
    let p = err_from_is_err_and c.from_residual.result c.from_residual.ensures.1 in
    let inside : c.loop-event.event-index < length c.loop-event.events = search rules in
    rw (p.1, p.2) (each_failed asking_seen IsAsked ClientLine (ClientAgrees c.args.self.now.client) (ClientAgrees c.loop-event.self.client) (asking_state c.args.self.now) (asking_state c.loop-event.self) c.args.events.now c.loop-event.events
    (g.W.Write.contents c.args.out.now) (g.W.Write.contents c.loop-event.out) c.loop-event.event-index c.loop-event.invariant (ClientAgrees c.follow_line.new.end.client) (asking_state c.follow_line.new.end) c.event-item.result c.follow_line.new.line
    (g.W.Write.contents c.follow_line.new.out) inside c.in_err-follow_line.field-0.0 c.in_err-follow_line.ensures)

pub returns : goal.returns
returns g c =
    let over : length c.loop-event.events ≤ c.loop-event.event-index = search rules in
    each_over asking_seen IsAsked ClientLine (ClientAgrees c.args.self.now.client) (ClientAgrees c.loop-event.self.client) (asking_state c.args.self.now) (asking_state c.loop-event.self) c.args.events.now c.loop-event.events
    (g.W.Write.contents c.args.out.now) (g.W.Write.contents c.loop-event.out) c.loop-event.event-index c.loop-event.invariant over
