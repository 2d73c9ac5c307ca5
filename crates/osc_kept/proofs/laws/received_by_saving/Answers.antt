use Rattle.osc_kept.proofs.Receiving.{received_by_saving}
use Rattle.osc_kept.proofs.laws.received_by_saving.Goals as goal

pub returns : goal.returns
returns c = received_by_saving
