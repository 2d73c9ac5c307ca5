use Rattle.osc_window.proofs.Agreements.{in_order}
use Rattle.osc_window.proofs.laws.in_order.Goals as goal

pub returns : goal.returns
returns c = in_order
