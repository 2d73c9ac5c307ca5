use Rattle.std.proofs.Common.{◌≡◌, ◌||◌}
use Rattle.osc_coap.specs.OptionNumbers.{oscore}
use Rattle.osc_coap.specs.Search.{has_number, values_at}
use Rattle.osc_coap.specs.Views.{options_left}
use Rattle.osc_protect.specs.Found.{FindsBefore}
use Rattle.osc_protect.specs.OptionSets.{is_proxy}
use Rattle.osc_protect.proofs.option_search.OuterOptions.of.Given as goal

abbrev pub invariant-loop-number : goal.invariant-loop-number
invariant-loop-number l = record {
  can_next : (goal.iterator-loop-number).can_next l.number-iterator;
  is_finite : (goal.iterator-loop-number).is_finite l.number-iterator;
  found : FindsBefore l.found (values_at oscore (options_left l.number-iterator)) (values_at oscore (options_left l.fn.options));
  proxy : has_number is_proxy (options_left l.fn.options) ≡ (l.has_proxy || has_number is_proxy (options_left l.number-iterator));
}
