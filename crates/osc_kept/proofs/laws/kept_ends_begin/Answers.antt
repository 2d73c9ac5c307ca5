use Rattle.osc_kept.proofs.Beginning.{kept_begin_above}
use Rattle.osc_kept.proofs.GoingOn.{client_begins, server_begins}
use Rattle.osc_kept.proofs.laws.kept_ends_begin.Goals as goal

pub returns : goal.returns
returns c = record { server = server_begins; client = client_begins; above = kept_begin_above }
