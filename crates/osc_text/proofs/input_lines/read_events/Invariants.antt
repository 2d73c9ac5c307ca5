use Rattle.std.proofs.Common.{length}
use Rattle.osc_text.proofs.InputLines.{ReadSoFar}
use Rattle.osc_text.proofs.input_lines.read_events.Given as goal

abbrev pub invariant-loop-rest : goal.invariant-loop-rest
invariant-loop-rest g l = ReadSoFar g.E.LineEvent.spells l.fn.input l.rest l.events.items

abbrev pub decreases-loop-rest : goal.decreases-loop-rest
decreases-loop-rest g l = length l.rest
