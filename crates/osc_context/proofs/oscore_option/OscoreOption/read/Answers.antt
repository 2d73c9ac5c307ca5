use Rattle.osc_context.proofs.Readings.{accepts_all, refuses_all}
use Rattle.osc_context.proofs.oscore_option.OscoreOption.read.Goals as goal

pub returns-clause-accepts : goal.returns-clause-accepts
returns-clause-accepts c = accepts_all _ _ c.read_value.ensures.accepted c.read_value.ensures.refused

pub returns-clause-refuses : goal.returns-clause-refuses
returns-clause-refuses c = refuses_all _ _ c.read_value.ensures.accepted c.read_value.ensures.refused
