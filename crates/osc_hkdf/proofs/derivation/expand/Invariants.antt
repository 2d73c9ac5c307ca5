use Rattle.std.proofs.Common.{◌≡◌, ◌*◌, ◌≤◌, length, take}
use Rattle.osc_hkdf.specs.Hkdf.{expand_block, expand_blocks}
use Rattle.osc_hkdf.proofs.derivation.expand.Given as goal

abbrev pub invariant-loop-i : goal.invariant-loop-i
invariant-loop-i l = record {
  long : length l.last ≡ 32;
  fits : l.used ≤ 32;
  last : take l.used l.last ≡ expand_block l.prk l.info l.i;
  done : take (32 * l.i) l.out ≡ take (length l.initial.out) (expand_blocks l.prk l.info l.i);
}
