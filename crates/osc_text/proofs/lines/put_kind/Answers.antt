use Rattle.std.proofs.Common.{codes, string_bytes}
use Rattle.osc_text.specs.Lines.{kind_text}
use Rattle.osc_text.proofs.MadeLines.{named_line}
use Rattle.osc_text.proofs.lines.put_kind.Goals as goal

pub returns : goal.returns
returns g c =
    named_line string_bytes _ _ _ c.put_line.result c.put_line.ensures.written c.put_line.ensures.failed (codes "kind") (kind_text c.args.kind) _ c.named.ensures
    (rw (← c.kind_text.ensures) c.from_str-text.ensures.ok)
