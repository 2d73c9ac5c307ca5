use Rattle.std.proofs.Common.{string_bytes}
use Rattle.osc_text.proofs.MadeLines.{line_is}
use Rattle.osc_text.proofs.lines.put_hex.Goals as goal

pub returns : goal.returns
returns g c = line_is string_bytes _ _ _ c.put_line.result c.put_line.ensures.written c.put_line.ensures.failed _ c.bytes_text.ensures
