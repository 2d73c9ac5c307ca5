use Rattle.osc_protect.proofs.ShownHeads.{named_alike}
use Rattle.osc_protect.proofs.laws.one_client.Goals as goal

pub returns : goal.returns
returns c = named_alike
