use Rattle.std.proofs.Common.{◌≡◌, ◌+◌, ◌≤◌, ◌||◌}
use Rattle.osc_coap.specs.OptionNumbers.{oscore}
use Rattle.osc_coap.specs.OptionSpelling.{last_number, spelling_length}
use Rattle.osc_coap.specs.Search.{has_number}
use Rattle.osc_coap.specs.Views.{options_left}
use Rattle.osc_protect.specs.OptionSets.{is_unsupported}
use Rattle.osc_protect.specs.Split.{Behind, Inside, Outside, has_observe, options_on}
use Rattle.osc_protect.proofs.checked.survey.Given as goal

abbrev pub invariant-loop-number : goal.invariant-loop-number
invariant-loop-number l = record {
  can_next : (goal.iterator-loop-number).can_next l.number-iterator;
  is_finite : (goal.iterator-loop-number).is_finite l.number-iterator;
  supported : has_number (is_unsupported l.fn.features) (options_left l.fn.options) ≡ has_number (is_unsupported l.fn.features) (options_left l.number-iterator);
  observes : has_observe l.fn.family.features.observe (options_left l.fn.options) ≡ l.observes || has_observe l.sought.outside (options_left l.number-iterator);
  outer : l.outer.len + spelling_length l.outer.number (options_on (Outside l.sought.outside) (options_left l.number-iterator)) ≡ spelling_length 0 (options_on (Outside l.fn.family.features.observe) (options_left l.fn.options));
  last : last_number l.outer.number (options_on (Outside l.sought.outside) (options_left l.number-iterator)) ≡ last_number 0 (options_on (Outside l.fn.family.features.observe) (options_left l.fn.options));
  behind : l.behind.len + spelling_length l.behind.number (options_on Behind (options_left l.number-iterator)) ≡ spelling_length oscore (options_on Behind (options_left l.fn.options));
  inner : l.inner.len + spelling_length l.inner.number (options_on (Inside l.sought.inside) (options_left l.number-iterator)) ≡ spelling_length 0 (options_on (Inside l.fn.family.notifies) (options_left l.fn.options));
  outer_fits : l.outer.len ≤ 65535;
  behind_fits : l.behind.len ≤ 65535;
  inner_fits : l.inner.len ≤ 65535;
}
