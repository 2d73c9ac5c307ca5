use Rattle.std.proofs.Common.{◌≡◌, ◌≤◌, map, take}
use Rattle.osc_coap.specs.OptionSpelling.{last_number, spelling_length}
use Rattle.osc_c.specs.Opened.{option_in}
use Rattle.osc_c.proofs.writing.spelled_len.Given as goal

abbrev pub invariant-loop-index : goal.invariant-loop-index
invariant-loop-index l = record {
  fits : l.len ≤ 65535;
  len : l.len ≡ spelling_length 0 (take l.index (map option_in l.options));
  last : l.number ≡ last_number 0 (take l.index (map option_in l.options));
}
