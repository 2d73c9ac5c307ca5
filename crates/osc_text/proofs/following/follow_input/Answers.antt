use Rattle.std.proofs.Common.{Ok, Option, refl, subst}
use Rattle.std.proofs.lemmas.Result.{err_from_is_err_and}
use Rattle.osc_text.specs.Feeding.{NextEvent}
use Rattle.osc_text.proofs.FollowedLines.{followed, no_memory_left, no_next, none_ran, not_followed, over}
use Rattle.osc_text.proofs.following.follow_input.Goals as goal

pub loop-good-init : goal.loop-good-init
loop-good-init g c =
    none_ran g.E.End.is_new g.E.End.does g.E.Event.LineEvent.spells g.E.Event.LineEvent.is_bad c.args.end.now (g.R.Read.remaining c.args.input.now) (g.W.Write.contents c.args.out.now) c.memory-memory.result c.memory-memory.ensures

pub returns-in_err-event : goal.returns-in_err-event
returns-in_err-event g c =
    let p = err_from_is_err_and c.from_residual.result c.from_residual.ensures.1 in
    rw (p.1, p.2) (no_next g.E.End.is_new g.E.End.does g.E.Event.LineEvent.spells g.E.Event.LineEvent.is_bad (g.E.End.are_lines_of c.args.end.now) g.W.Write.contents c.args.end.now c.loop-good.end c.loop-good.memory
    (g.R.Read.remaining c.args.input.now) (g.R.Read.remaining c.loop-good.input) c.args.out.now c.loop-good.out c.loop-good.good c.loop-good.invariant (g.R.Read.remaining c.next_event.new.input) c.in_err-event.field-0.0 c.in_err-event.ensures)

pub returns-in_default : goal.returns-in_default
returns-in_default g c =
    let left = g.R.Read.remaining c.next_event.new.input in
    let Next = λ (x : Option g.row.E-Event.Denot). NextEvent g.E.Event.LineEvent.spells g.E.Event.LineEvent.is_bad c.loop-good.good (g.R.Read.remaining c.loop-good.input) left (Ok x) in
    over g.E.End.is_new g.E.End.does g.E.Event.LineEvent.spells g.E.Event.LineEvent.is_bad (g.E.End.are_lines_of c.args.end.now) g.W.Write.contents c.args.end.now c.loop-good.end c.loop-good.memory
    (g.R.Read.remaining c.args.input.now) (g.R.Read.remaining c.loop-good.input) c.args.out.now c.loop-good.out c.loop-good.good c.loop-good.invariant left (subst Next c.in_default.is c.in_ok-event.ensures)

pub returns-in_err-follow : goal.returns-in_err-follow
returns-in_err-follow g c =
    let left = g.R.Read.remaining c.next_event.new.input in
    let Next = λ (x : Option g.row.E-Event.Denot). NextEvent g.E.Event.LineEvent.spells g.E.Event.LineEvent.is_bad c.loop-good.good (g.R.Read.remaining c.loop-good.input) left (Ok x) in
    let p = err_from_is_err_and c.from_residual-in_err-follow.result c.from_residual-in_err-follow.ensures.1 in
    rw (p.1, p.2) (not_followed g.E.End.is_new g.E.End.does g.E.Event.LineEvent.spells g.E.Event.LineEvent.is_bad (g.E.End.are_lines_of c.args.end.now) g.W.Write.contents c.args.end.now c.loop-good.end c.loop-good.memory
    (g.R.Read.remaining c.args.input.now) (g.R.Read.remaining c.loop-good.input) c.args.out.now c.loop-good.out c.loop-good.good c.loop-good.invariant c.follow.new.out left c.follow.new.self c.follow.new.memory c.in-Some.event c.in_err-follow.field-0.0 (subst Next c.in-Some.is c.in_ok-event.ensures) c.in_err-follow.ensures)

pub loop-good-preserved : goal.loop-good-preserved
loop-good-preserved g c =
    let left = g.R.Read.remaining c.next_event.new.input in
    let Next = λ (x : Option g.row.E-Event.Denot). NextEvent g.E.Event.LineEvent.spells g.E.Event.LineEvent.is_bad c.loop-good.good (g.R.Read.remaining c.loop-good.input) left (Ok x) in
    followed g.E.End.is_new g.E.End.does g.E.Event.LineEvent.spells g.E.Event.LineEvent.is_bad (g.E.End.are_lines_of c.args.end.now) g.W.Write.contents c.args.end.now c.loop-good.end c.loop-good.memory
    (g.R.Read.remaining c.args.input.now) (g.R.Read.remaining c.loop-good.input) c.args.out.now c.loop-good.out c.loop-good.good c.loop-good.invariant c.follow.new.out left c.follow.new.self c.follow.new.memory c.in-Some.event (subst Next c.in-Some.is c.in_ok-event.ensures) c.in_ok-follow.ensures

pub returns : goal.returns
returns g c = no_memory_left g.E.End.is_new g.E.End.does g.E.Event.LineEvent.spells g.E.Event.LineEvent.is_bad (g.E.End.are_lines_of c.args.end.now) g.W.Write.contents c.args.end.now c.loop-good.end c.loop-good.memory
    (g.R.Read.remaining c.args.input.now) (g.R.Read.remaining c.loop-good.input) c.args.out.now c.loop-good.out c.loop-good.good c.loop-good.invariant c.loop-good.out refl
