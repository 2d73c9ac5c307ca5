use Rattle.std.proofs.Common.{◌≡◌, ◌++◌, ℕ, List}
use Rattle.osc_coap.specs.OptionSpelling.{Entry}
use Rattle.osc_coap.specs.Views.{options_left}
use Rattle.osc_coap.specs.Writing.{Draft, with_options}
use Rattle.osc_coap.specs.Writer.{Holds, buffer_of}
use Rattle.osc_protect.specs.Split.{Inside, Outside, options_on}
use Rattle.osc_protect.proofs.split.write_options.Given as goal

abbrev pub invariant-loop-number : goal.invariant-loop-number
invariant-loop-number l = record {
  can_next : (goal.iterator-loop-number).can_next l.number-iterator;
  is_finite : (goal.iterator-loop-number).is_finite l.number-iterator;
  same_outer : buffer_of l.outer ≡ buffer_of l.fn.outer;
  same_inner : buffer_of l.inner ≡ buffer_of l.fn.inner;
  outside : (draft : Draft) (old : List ℕ) → Holds l.fn.outer draft old → (done : List Entry) × Holds l.outer (with_options draft done) old × (options_on (Outside l.fn.sought.outside) (options_left l.fn.options) ≡ done ++ options_on (Outside l.sought.outside) (options_left l.number-iterator));
  inside : (draft : Draft) (old : List ℕ) → Holds l.fn.inner draft old → (done : List Entry) × Holds l.inner (with_options draft done) old × (options_on (Inside l.fn.sought.inside) (options_left l.fn.options) ≡ done ++ options_on (Inside l.sought.inside) (options_left l.number-iterator));
}
