use Rattle.std.proofs.Common.{◌≡◌, ◌≤◌, ◌++◌, length, map, take}
use Rattle.osc_coap.specs.Views.{options_left}
use Rattle.osc_c.specs.Opened.{option_in}
use Rattle.osc_c.proofs.opened_view.put_options.Given as goal

abbrev pub invariant-loop-number : goal.invariant-loop-number
invariant-loop-number l = record {
  can_next : (goal.iterator-loop-number).can_next l.number-iterator;
  is_finite : (goal.iterator-loop-number).is_finite l.number-iterator;
  fits : l.count ≤ length l.places;
  len : length l.places ≡ length l.fn.places;
  so_far : options_left l.fn.options ≡ map option_in (take l.count l.places) ++ options_left l.number-iterator;
}
