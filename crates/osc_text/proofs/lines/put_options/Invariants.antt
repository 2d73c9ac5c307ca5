use Rattle.std.proofs.Common.{map}
use Rattle.osc_text.specs.Lines.{option_line}
use Rattle.osc_coap.specs.Views.{options_left}
use Rattle.osc_text.proofs.Appending.{SoFar}
use Rattle.osc_text.proofs.lines.put_options.Given as goal

abbrev pub invariant-loop-number : goal.invariant-loop-number
invariant-loop-number g l = record {
  can_next : (goal.iterator-loop-number g).can_next l.number-iterator;
  is_finite : (goal.iterator-loop-number g).is_finite l.number-iterator;
  so_far : SoFar (g.W.Write.contents l.initial.out) (g.W.Write.contents l.out) (map option_line (options_left l.fn.options)) (map option_line (options_left l.number-iterator));
}
