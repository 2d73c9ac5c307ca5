use Rattle.std.proofs.Common.{◌≡◌, ◌++◌, ℕ, List}
use Rattle.osc_coap.specs.OptionSpelling.{Entry}
use Rattle.osc_coap.specs.Writer.{Holds, buffer_of}
use Rattle.osc_coap.specs.Writing.{Draft, with_options}
use Rattle.osc_proxy.specs.Splitting.{part_options, parts_fit}
use Rattle.osc_proxy.specs.UriViews.{parts_left}
use Rattle.osc_proxy.proofs.writing.write_parts.Given as goal

abbrev pub invariant-loop-part : goal.invariant-loop-part
invariant-loop-part l = record {
  can_next : (goal.iterator-loop-part).can_next l.part-iterator;
  is_finite : (goal.iterator-loop-part).is_finite l.part-iterator;
  fine : parts_fit (parts_left l.fn.parts) ≡ parts_fit (parts_left l.part-iterator);
  same : buffer_of l.writer ≡ buffer_of l.fn.writer;
  written : (draft : Draft) (old : List ℕ) → Holds l.fn.writer draft old → (done : List Entry) × Holds l.writer (with_options draft done) old × (part_options l.fn.number (parts_left l.fn.parts) ≡ done ++ part_options l.fn.number (parts_left l.part-iterator));
}
