use Rattle.std.proofs.Common.{refl, rules}
use Rattle.osc_c.specs.Writing.Unless.{here, further}
use Rattle.osc_c.proofs.Unwritten.{none_ascend, none_short}
use Rattle.osc_c.proofs.writing.judge.Goals as goal

pub returns-in-Some-late_option-clause-refused : goal.returns-in-Some-late_option-clause-refused
returns-in-Some-late_option-clause-refused c = further (search rules) (further (search rules) (further (search rules) (here (none_ascend _ _ c.in-Some-late_option.ensures.some) (refl, c.in-Some-late_option.ensures.some))))

pub returns-in-Some-long_option-clause-refused : goal.returns-in-Some-long_option-clause-refused
returns-in-Some-long_option-clause-refused c = further (search rules) (further (search rules) (further (search rules) (further (search rules) (here (none_short _ _ c.in-Some-long_option.ensures.some) (refl, c.in-Some-long_option.ensures.some)))))
