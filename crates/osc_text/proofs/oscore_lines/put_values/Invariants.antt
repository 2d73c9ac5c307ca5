use Rattle.osc_coap.specs.Views.{options_left}
use Rattle.osc_text.proofs.ExplainTexts.{Continues}
use Rattle.osc_text.proofs.oscore_lines.put_values.Given as goal

abbrev pub invariant-loop-number : goal.invariant-loop-number
invariant-loop-number g l = record {
  can_next : (goal.iterator-loop-number g).can_next l.number-iterator;
  is_finite : (goal.iterator-loop-number g).is_finite l.number-iterator;
  so_far : Continues (g.W.Write.contents l.initial.out) (g.W.Write.contents l.out) (options_left l.fn.options) (options_left l.number-iterator);
}
