use Rattle.osc_text.proofs.InputLines.{line_behind, only_line}
use Rattle.osc_text.proofs.input_lines.first_line.Goals as goal

pub returns-in-Some-clause-lines : goal.returns-in-Some-clause-lines
returns-in-Some-clause-lines c = (line_behind c.args.rest.now c.in-Some.parts.0.now c.in-Some.parts.1.now c.in-Some.ensures).0

pub returns-in-Some-clause-shorter : goal.returns-in-Some-clause-shorter
returns-in-Some-clause-shorter c = (line_behind c.args.rest.now c.in-Some.parts.0.now c.in-Some.parts.1.now c.in-Some.ensures).1

pub returns-in-None-clause-lines : goal.returns-in-None-clause-lines
returns-in-None-clause-lines c = only_line c.args.rest.now c.requires c.in-None.ensures
