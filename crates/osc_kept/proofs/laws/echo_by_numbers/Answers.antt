use Rattle.osc_kept.proofs.EchoNumbers.{counted_goes_on, echo_by_numbers, number_is_unseen}
use Rattle.osc_kept.proofs.laws.echo_by_numbers.Goals as goal

pub returns : goal.returns
returns c = record { ends = echo_by_numbers c.both_ends.ensures; unseen = number_is_unseen c.both_ends.ensures; goes_on = counted_goes_on }
