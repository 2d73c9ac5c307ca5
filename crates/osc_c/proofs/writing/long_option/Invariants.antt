use Rattle.std.proofs.Common.{map, take}
use Rattle.osc_c.specs.Opened.{option_in}
use Rattle.osc_c.specs.Writing.{HaveLengths}
use Rattle.osc_c.proofs.writing.long_option.Given as goal

abbrev pub invariant-loop-index : goal.invariant-loop-index
invariant-loop-index l = HaveLengths (take l.index (map option_in l.options))
