use Rattle.std.proofs.Common.{◌≡◌, ◌≢◌, ◌∙◌, ◌+◌, [], ap, length, refl, rules, sym}
use Rattle.osc_text.specs.InputReading.{lines_of}
use Rattle.osc_text.proofs.FollowedLines.{bad_next, event_next, none_next}
use Rattle.osc_text.proofs.following.next_event.Goals as goal

pub returns-then-is_empty : goal.returns-then-is_empty
returns-then-is_empty g c =
    let none : length c.read_line.new.line.items ≡ 0 = search rules in
    none_next g.E.LineEvent.spells g.E.LineEvent.is_bad c.args.good (g.R.Read.remaining c.args.input.now) (g.R.Read.remaining c.read_line.new.input) c.read_line.new.line.items (c.in_ok-read_line.ensures.read refl) none

pub returns-in-Some : goal.returns-in-Some
returns-in-Some g c =
    let read = c.read_line.new.line.items in
    let some : read ≢ [] = search rules in
    let first = ap lines_of (sym c.deref.ensures.value) ∙ c.first_line.ensures.lines in
    event_next g.E.LineEvent.spells g.E.LineEvent.is_bad c.args.good (g.R.Read.remaining c.args.input.now) (g.R.Read.remaining c.read_line.new.input) read c.first_line.result.0.now c.first_line.result.1.now c.in-Some.event
    (c.in_ok-read_line.ensures.read refl) some first (search rules)

pub returns-in-None : goal.returns-in-None
returns-in-None g c =
    let read = c.read_line.new.line.items in
    let some : read ≢ [] = search rules in
    let first = ap lines_of (sym c.deref.ensures.value) ∙ c.first_line.ensures.lines in
    rw c.line_behind.ensures (bad_next g.E.LineEvent.spells g.E.LineEvent.is_bad c.args.good (g.R.Read.remaining c.args.input.now) (g.R.Read.remaining c.read_line.new.input) read c.first_line.result.0.now c.first_line.result.1.now (c.args.good + 1)
    (c.in_ok-read_line.ensures.read refl) some first (search rules) refl)
