use Rattle.std.proofs.Common.{◌≡◌, ◌++◌, ℕ, List}
use Rattle.osc_coap.specs.OptionSpelling.{Entry}
use Rattle.osc_coap.specs.Views.{options_left}
use Rattle.osc_coap.specs.Writing.{Draft, with_options}
use Rattle.osc_coap.specs.Writer.{Holds, buffer_of}
use Rattle.osc_protect.specs.Split.{Behind, options_on}
use Rattle.osc_protect.proofs.split.write_behind.Given as goal

abbrev pub invariant-loop-number : goal.invariant-loop-number
invariant-loop-number l = record {
  can_next : (goal.iterator-loop-number).can_next l.number-iterator;
  is_finite : (goal.iterator-loop-number).is_finite l.number-iterator;
  same : buffer_of l.outer ≡ buffer_of l.fn.outer;
  written : (draft : Draft) (old : List ℕ) → Holds l.fn.outer draft old → (done : List Entry) × Holds l.outer (with_options draft done) old × (options_on Behind (options_left l.fn.options) ≡ done ++ options_on Behind (options_left l.number-iterator));
}
