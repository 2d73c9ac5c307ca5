use Rattle.std.proofs.Common.{rules, string_bytes}
use Rattle.osc_text.proofs.LogLines.{more_written}
use Rattle.osc_text.proofs.entry_lines.with_more_options.Goals as goal

pub loop-number-preserved : goal.loop-number-preserved
loop-number-preserved c = record {
  can_next = tt;
  is_finite = tt;
  written = more_written _ _ (string_bytes c.push_str.new.self) _ c.in-Some.number c.in-Some.value.now _ _ c.loop-number.invariant.written c.in-Some.ensures.steps (search rules) (search rules);
}
