use Rattle.std.proofs.Common.{◌≡◌, ◌≤◌, ◌+◌, ◌++◌, List, min}
use Rattle.osc_coap.specs.OptionSpelling.{Entry, spelling_length}
use Rattle.osc_coap.specs.Views.{options_left}
use Rattle.osc_proxy.specs.Splitting.{between}
use Rattle.osc_proxy.proofs.tally.Tally.and_between.Given as goal

abbrev pub invariant-loop-number : goal.invariant-loop-number
invariant-loop-number l = record {
  can_next : (goal.iterator-loop-number).can_next l.number-iterator;
  is_finite : (goal.iterator-loop-number).is_finite l.number-iterator;
  fits : l.tally.len ≤ 65536;
  counted : (rest : List Entry) → min (l.tally.len + spelling_length l.tally.number (between l.fn.least l.fn.most (options_left l.number-iterator) ++ rest)) 65536 ≡ min (l.fn.self.len + spelling_length l.fn.self.number (between l.fn.least l.fn.most (options_left l.fn.options) ++ rest)) 65536;
}
