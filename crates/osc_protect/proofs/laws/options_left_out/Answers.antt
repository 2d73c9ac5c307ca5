use Rattle.std.proofs.Common.{refl, ◌==◌}
use Rattle.osc_coap.specs.OptionNumbers.{observe}
use Rattle.osc_protect.proofs.Sides.{unsought_outside}
use Rattle.osc_protect.proofs.Splits.{or_none}
use Rattle.osc_protect.proofs.laws.options_left_out.Goals as goal

pub returns : goal.returns
returns c = record {
  left_out = λ n. refl;
  unsupported = λ n. refl;
  barred = λ n. refl;
  with_blocks = λ n. or_none (n == observe);
  with_observe = λ n. refl;
  with_both = λ n. refl;
  without = refl;
  outside_alone = λ x entry. refl;
  code = λ u x entries. refl;
  outer = λ x p code value payload. rw (unsought_outside p.options) refl;
  long = λ x p value. rw (unsought_outside p.options) refl;
}
