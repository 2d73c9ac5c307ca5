use Rattle.std.proofs.Common.{◌≡◌, ℕ, List, map, take}
use Rattle.osc_coap.specs.Writer.{Holds, buffer_of}
use Rattle.osc_coap.specs.Writing.{Draft, with_options}
use Rattle.osc_c.specs.Opened.{option_in}
use Rattle.osc_c.proofs.writing.write_options.Given as goal

abbrev pub invariant-loop-index : goal.invariant-loop-index
invariant-loop-index l = record {
  same_reference : buffer_of l.writer ≡ buffer_of l.fn.writer;
  so_far : (draft : Draft) (old : List ℕ) → Holds l.fn.writer draft old → Holds l.writer (with_options draft (take l.index (map option_in l.options))) old;
}
