use Rattle.osc_obeyed.proofs.Asking.{fresh_on_demand}
use Rattle.osc_obeyed.proofs.laws.fresh_on_demand.Goals as goal

pub returns : goal.returns
returns c = fresh_on_demand c.echo_by_numbers.ensures.ends c.echo_by_numbers.ensures.unseen
