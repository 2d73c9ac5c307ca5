use Rattle.osc_kept.proofs.GoingOn.{client_goes_on, server_goes_on}
use Rattle.osc_kept.proofs.laws.kept_ends_go_on.Goals as goal

pub returns : goal.returns
returns c = record { server = server_goes_on; client = client_goes_on }
