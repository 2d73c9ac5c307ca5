use Rattle.std.proofs.Common.{◌≡◌}
use Rattle.std.specs.Prelude.{option_copied}
use Rattle.osc_coap.specs.Search.{values_at}
use Rattle.osc_coap.specs.Views.{options_left}
use Rattle.osc_proxy.specs.SplitRefusals.{only_of}
use Rattle.osc_proxy.specs.Between.{only_behind}
use Rattle.osc_proxy.proofs.splitting.only_value.Given as goal

abbrev pub invariant-loop-found : goal.invariant-loop-found
invariant-loop-found l = record {
  can_next : (goal.iterator-loop-found).can_next l.found-iterator;
  is_finite : (goal.iterator-loop-found).is_finite l.found-iterator;
  same : only_of (values_at l.fn.number (options_left l.fn.options)) ≡ only_behind (option_copied l.only) (values_at l.fn.number (options_left l.found-iterator));
}
