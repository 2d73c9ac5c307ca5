use Rattle.osc_context.proofs.OneValue.{one_spelling, one_value, in_range, fits}
use Rattle.osc_context.proofs.WrittenValues.{length-value}
use Rattle.osc_context.proofs.laws.one_option_value.Goals as goal

pub returns-clause-one_spelling : goal.returns-clause-one_spelling
returns-clause-one_spelling c = one_spelling

pub returns-clause-one_value : goal.returns-clause-one_value
returns-clause-one_value c = one_value

pub returns-clause-in_range : goal.returns-clause-in_range
returns-clause-in_range c = in_range

pub returns-clause-fits : goal.returns-clause-fits
returns-clause-fits c = fits

pub returns-clause-most : goal.returns-clause-most
returns-clause-most c = length-value
