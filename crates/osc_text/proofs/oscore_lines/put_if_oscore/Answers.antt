use Rattle.osc_text.proofs.ExplainTexts.{writes_alone}
use Rattle.osc_text.proofs.oscore_lines.put_if_oscore.Goals as goal

pub returns-then-number-eq-OSCORE : goal.returns-then-number-eq-OSCORE
returns-then-number-eq-OSCORE g c = rw c.if-number-eq-OSCORE.true (writes_alone c.args.value.now _ _ c.put_value.result c.put_value.ensures)
