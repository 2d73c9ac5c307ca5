use Rattle.std.proofs.Common.{◌≡◌}
use Rattle.osc_coap.specs.Search.{has_number}
use Rattle.osc_coap.specs.Views.{options_left}
use Rattle.osc_proxy.specs.Asking.{asks_proxy}
use Rattle.osc_proxy.proofs.asking.has_asked.Given as goal

abbrev pub invariant-loop-number : goal.invariant-loop-number
invariant-loop-number l = record {
  can_next : (goal.iterator-loop-number).can_next l.number-iterator;
  is_finite : (goal.iterator-loop-number).is_finite l.number-iterator;
  same : has_number asks_proxy (options_left l.fn.options) ≡ has_number asks_proxy (options_left l.number-iterator);
}
