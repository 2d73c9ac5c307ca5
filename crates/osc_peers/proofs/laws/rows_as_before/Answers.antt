use Rattle.osc_peers.proofs.Rows.{rows_as_before}
use Rattle.osc_peers.proofs.laws.rows_as_before.Goals as goal

pub returns : goal.returns
returns c = rows_as_before
