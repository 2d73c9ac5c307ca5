use Rattle.std.proofs.Common.{◌≡◌, map, take}
use Rattle.osc_coap.specs.OptionSpelling.{Ascends, last_number}
use Rattle.osc_c.specs.Opened.{option_in}
use Rattle.osc_c.proofs.writing.late_option.Given as goal

abbrev pub invariant-loop-index : goal.invariant-loop-index
invariant-loop-index l = record {
  before : Ascends 0 (take l.index (map option_in l.options));
  last : l.number ≡ last_number 0 (take l.index (map option_in l.options));
}
