use Rattle.osc_laws.proofs.ClientEntriesStand.{client_entries_stand}
use Rattle.osc_laws.proofs.headlines.client_headline.Goals as goal

pub returns : goal.returns
returns c = client_entries_stand c.client_rows.ensures
