use Rattle.std.proofs.Common.{◌≡◌}
use Rattle.osc_coap.specs.Search.{values_at}
use Rattle.osc_coap.specs.Views.{options_left}
use Rattle.osc_coap.proofs.options.Options.first.Given as goal

abbrev pub invariant-loop-found : goal.invariant-loop-found
invariant-loop-found l = record {
  can_next : (goal.iterator-loop-found).can_next l.found-iterator;
  is_finite : (goal.iterator-loop-found).is_finite l.found-iterator;
  same : values_at l.number (options_left l.self) ≡ values_at l.number (options_left l.found-iterator);
}
