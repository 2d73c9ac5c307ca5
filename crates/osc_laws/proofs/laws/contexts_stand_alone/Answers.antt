use Rattle.osc_laws.proofs.Shares as shares
use Rattle.osc_laws.proofs.laws.contexts_stand_alone.Goals as goal

pub returns : goal.returns
returns c = shares.contexts_stand_alone
