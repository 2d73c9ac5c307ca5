use Rattle.std.proofs.Common.{string_bytes}
use Rattle.osc_text.proofs.MadeLines.{refusal_is}
use Rattle.osc_text.proofs.entry_lines.put_not_done.Goals as goal

pub returns : goal.returns
returns g c = refusal_is string_bytes _ _ _ c.put_line.result c.put_line.ensures.written c.put_line.ensures.failed (g.D.Display.output c.args.refusal) c.refused_text.ensures
