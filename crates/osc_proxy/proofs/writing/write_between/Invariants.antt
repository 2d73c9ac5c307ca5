use Rattle.std.proofs.Common.{◌≡◌, ◌++◌, ℕ, List}
use Rattle.osc_coap.specs.OptionSpelling.{Entry}
use Rattle.osc_coap.specs.Views.{options_left}
use Rattle.osc_coap.specs.Writer.{Holds, buffer_of}
use Rattle.osc_coap.specs.Writing.{Draft, with_options}
use Rattle.osc_proxy.specs.Splitting.{between}
use Rattle.osc_proxy.proofs.writing.write_between.Given as goal

abbrev pub invariant-loop-number : goal.invariant-loop-number
invariant-loop-number l = record {
  can_next : (goal.iterator-loop-number).can_next l.number-iterator;
  is_finite : (goal.iterator-loop-number).is_finite l.number-iterator;
  same : buffer_of l.writer ≡ buffer_of l.fn.writer;
  written : (draft : Draft) (old : List ℕ) → Holds l.fn.writer draft old → (done : List Entry) × Holds l.writer (with_options draft done) old × (between l.fn.least l.fn.most (options_left l.fn.options) ≡ done ++ between l.fn.least l.fn.most (options_left l.number-iterator));
}
