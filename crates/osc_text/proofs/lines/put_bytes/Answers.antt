use Rattle.std.proofs.Common.{string_bytes}
use Rattle.osc_text.proofs.MadeLines.{named_line}
use Rattle.osc_text.proofs.lines.put_bytes.Goals as goal

pub returns : goal.returns
returns g c = named_line string_bytes _ _ _ c.put_line.result c.put_line.ensures.written c.put_line.ensures.failed c.args.name.now _ _ c.named.ensures c.bytes_text.ensures
