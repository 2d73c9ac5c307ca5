use Rattle.std.proofs.Common.{◌≡◌, ◌++◌, string_bytes}
use Rattle.osc_coap.specs.Views.{options_left}
use Rattle.osc_text.specs.EntryLines.{more_options_text}
use Rattle.osc_text.proofs.entry_lines.with_more_options.Given as goal

abbrev pub invariant-loop-number : goal.invariant-loop-number
invariant-loop-number l = record {
  can_next : (goal.iterator-loop-number).can_next l.number-iterator;
  is_finite : (goal.iterator-loop-number).is_finite l.number-iterator;
  written : string_bytes l.fn.text ++ more_options_text (options_left l.fn.options) ≡ string_bytes l.text ++ more_options_text (options_left l.number-iterator);
}
