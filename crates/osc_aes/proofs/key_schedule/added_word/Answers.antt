use lib.Bits.{xor_zero_r}
use Rattle.osc_aes.proofs.key_schedule.added_word.Goals as goal

pub returns-then-index-eq0 : goal.returns-then-index-eq0
returns-then-index-eq0 c =
    rw (
      c.if-index-eq0.true,
      c.round_constant.ensures,
      c.substitute_byte.ensures,
      c.substitute_byte-then-index-eq0.ensures,
      c.substitute_byte-then-index-eq0-2.ensures,
      c.substitute_byte-then-index-eq0-3.ensures,
    ) (simp xor_zero_r)
