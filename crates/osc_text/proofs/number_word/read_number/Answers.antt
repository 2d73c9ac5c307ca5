use Rattle.std.proofs.Common.{arith}
use Rattle.osc_text.proofs.NumberWords.{in_range}
use Rattle.osc_text.proofs.number_word.read_number.Goals as goal

pub returns-in-Some : goal.returns-in-Some
returns-in-Some c = in_range c.args.word.now c.in-Some.number c.new.result c.in-Some.ensures.0.0 c.in-Some.ensures.1 c.new.ensures.made c.new.ensures.accepted c.new.ensures.refused

pub returns-in-None : goal.returns-in-None
returns-in-None c = λ h. let lt = h.1 in c.in-None.ensures (h.0, omega (arith, lt))
