use Rattle.std.proofs.Common.{drop, map}
use Rattle.osc_text.specs.EntryLines.{entry_line}
use Rattle.osc_text.proofs.Appending.{SoFar}
use Rattle.osc_text.proofs.entry_lines.put_entries.Given as goal

abbrev pub invariant-loop-entry : goal.invariant-loop-entry
invariant-loop-entry g l =
    SoFar (g.W.Write.contents l.initial.out) (g.W.Write.contents l.out) (map (λ e. entry_line (g.L.LogEntry.text_of e)) l.log) (map (λ e. entry_line (g.L.LogEntry.text_of e)) (drop l.entry-index l.log))
