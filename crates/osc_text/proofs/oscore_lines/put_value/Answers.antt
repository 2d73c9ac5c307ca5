use Rattle.std.proofs.Common.{◌≡◌, ℕ, List, codes, string_bytes}
use Rattle.osc_text.specs.Explanation.{ValueLine}
use Rattle.osc_text.specs.Lines.{text_line}
use Rattle.osc_text.proofs.MadeLines.{behind_line, then_ok}
use Rattle.osc_text.proofs.oscore_lines.put_value.Goals as goal

pub returns : goal.returns
returns g c = λ line is_line.
    behind_line string_bytes _ _ _ c.put_line.result c.put_line.ensures.written c.put_line.ensures.failed (codes "oscore") line c.value_text.result c.named.ensures
    (then_ok c.value_text.result (λ t. (l : List ℕ) → ValueLine c.args.value.now l → l ≡ text_line (codes "oscore") (string_bytes t)) (λ t. line ≡ text_line (codes "oscore") (string_bytes t)) c.value_text.ensures (λ t told. told line is_line))
