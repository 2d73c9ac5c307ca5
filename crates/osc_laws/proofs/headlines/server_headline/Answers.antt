use Rattle.osc_laws.proofs.EntriesStand.{entries_stand}
use Rattle.osc_laws.proofs.headlines.server_headline.Goals as goal

pub returns : goal.returns
returns c = entries_stand c.server_rows.ensures
