use Rattle.std.proofs.Common.{codes, string_bytes}
use Rattle.osc_text.proofs.MadeLines.{line_is}
use Rattle.osc_text.proofs.entry_lines.put_replaced.Goals as goal

pub returns : goal.returns
returns g c = line_is string_bytes _ _ _ c.put_line.result c.put_line.ensures.written c.put_line.ensures.failed (codes "replaced") c.from_str.ensures.ok
