use Rattle.osc_text.proofs.ReplaceSpellings.{none_serving}
use Rattle.osc_text.proofs.replacing.ServedLineLineEvent.from_line.Goals as goal

pub returns-in-None-clause-refused : goal.returns-in-None-clause-refused
returns-in-None-clause-refused c = none_serving c.args.line.now (rw c.in-None.is at c.in_ok-event.ensures.refused) (rw c.in_default.is at c.in_ok-replaced.ensures.refused)
