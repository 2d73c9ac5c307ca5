use Rattle.std.proofs.Common.{◌≡◌, ◌++◌, ℕ, List}
use Rattle.osc_coap.specs.OptionSpelling.{Entry}
use Rattle.osc_coap.specs.Views.{options_left}
use Rattle.osc_coap.specs.Writing.{Draft, with_options}
use Rattle.osc_coap.specs.Writer.{Holds, buffer_of}
use Rattle.osc_fresh.specs.Sides.{side}
use Rattle.osc_fresh.proofs.with_echo.write_side.Given as goal

abbrev pub invariant-loop-number : goal.invariant-loop-number
invariant-loop-number l = record {
  can_next : (goal.iterator-loop-number).can_next l.number-iterator;
  is_finite : (goal.iterator-loop-number).is_finite l.number-iterator;
  same_reference : buffer_of l.writer ≡ buffer_of l.fn.writer;
  so_far : (draft : Draft) (old : List ℕ) → Holds l.fn.writer draft old → (done : List Entry) × Holds l.writer (with_options draft done) old × (side l.behind (options_left l.fn.options) ≡ done ++ side l.behind (options_left l.number-iterator));
}
