use Rattle.std.proofs.Common.{◌≡◌}
use Rattle.osc_coap.specs.OptionNumbers.{uri_host, uri_port}
use Rattle.osc_coap.specs.Search.{first_of, values_at}
use Rattle.osc_coap.specs.Views.{options_left}
use Rattle.osc_protect.specs.Found.{first_or}
use Rattle.osc_protect.specs.Views.{shown}
use Rattle.osc_protect.proofs.option_search.OuterUri.of.Given as goal

abbrev pub invariant-loop-number : goal.invariant-loop-number
invariant-loop-number l = record {
  can_next : (goal.iterator-loop-number).can_next l.number-iterator;
  is_finite : (goal.iterator-loop-number).is_finite l.number-iterator;
  host : first_or (shown l.host) (values_at uri_host (options_left l.number-iterator)) ≡ first_of (values_at uri_host (options_left l.fn.options));
  port : first_or (shown l.port) (values_at uri_port (options_left l.number-iterator)) ≡ first_of (values_at uri_port (options_left l.fn.options));
}
