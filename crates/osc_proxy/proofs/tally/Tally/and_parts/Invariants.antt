use Rattle.std.proofs.Common.{◌≡◌, ◌≤◌, ◌+◌, ◌++◌, List, min}
use Rattle.osc_coap.specs.OptionSpelling.{Entry, spelling_length}
use Rattle.osc_proxy.specs.Splitting.{part_options, parts_fit}
use Rattle.osc_proxy.specs.UriViews.{parts_left}
use Rattle.osc_proxy.proofs.tally.Tally.and_parts.Given as goal

abbrev pub invariant-loop-part : goal.invariant-loop-part
invariant-loop-part l = record {
  can_next : (goal.iterator-loop-part).can_next l.part-iterator;
  is_finite : (goal.iterator-loop-part).is_finite l.part-iterator;
  fits : l.tally.len ≤ 65536;
  counted : (rest : List Entry) → min (l.tally.len + spelling_length l.tally.number (part_options l.fn.number (parts_left l.part-iterator) ++ rest)) 65536 ≡ min (l.fn.self.len + spelling_length l.fn.self.number (part_options l.fn.number (parts_left l.fn.parts) ++ rest)) 65536;
  fine : parts_fit (parts_left l.fn.parts) ≡ parts_fit (parts_left l.part-iterator);
}
