use Rattle.osc_laws.proofs.DeliveredNumbers.{numbers_once}
use Rattle.osc_laws.proofs.laws.delivered_once.Goals as goal

pub returns : goal.returns
returns c = numbers_once
