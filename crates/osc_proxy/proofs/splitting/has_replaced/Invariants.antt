use Rattle.std.proofs.Common.{◌≡◌}
use Rattle.osc_coap.specs.Search.{has_number}
use Rattle.osc_coap.specs.Views.{options_left}
use Rattle.osc_proxy.specs.Splitting.{is_replaced}
use Rattle.osc_proxy.proofs.splitting.has_replaced.Given as goal

abbrev pub invariant-loop-number : goal.invariant-loop-number
invariant-loop-number l = record {
  can_next : (goal.iterator-loop-number).can_next l.number-iterator;
  is_finite : (goal.iterator-loop-number).is_finite l.number-iterator;
  same : has_number is_replaced (options_left l.fn.options) ≡ has_number is_replaced (options_left l.number-iterator);
}
