use Rattle.std.proofs.Common.{◌≡◌, ◌+◌, length, rules}
use Rattle.osc_text.proofs.InputLines.{all_read, none_more, read_more}
use Rattle.osc_text.proofs.input_lines.read_events.Goals as goal

pub returns-in-None-clause-refused : goal.returns-in-None-clause-refused
returns-in-None-clause-refused g c =
    let counted : c.len.result + 1 ≡ length c.loop-rest.events.items + 1 = search rules in
    rw c.line_behind.ensures (none_more g.E.LineEvent.spells g.E.LineEvent.is_bad c.args.input.now c.first_line.result.0.now c.loop-rest.rest.now c.first_line.result.1.now c.loop-rest.events.items _ c.loop-rest.invariant c.first_line.ensures.lines (search rules) counted)

pub loop-rest-preserved : goal.loop-rest-preserved
loop-rest-preserved g c =
    read_more g.E.LineEvent.spells c.args.input.now c.first_line.result.0.now c.loop-rest.rest.now c.first_line.result.1.now c.loop-rest.events.items _ c.in-Some.event c.loop-rest.invariant c.first_line.ensures.lines (search rules) (search rules)

pub returns-clause-read : goal.returns-clause-read
returns-clause-read g c = all_read g.E.LineEvent.spells c.args.input.now c.loop-rest.rest.now c.loop-rest.events.items c.loop-rest.invariant (search rules)
