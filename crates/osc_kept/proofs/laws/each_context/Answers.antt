use Rattle.osc_kept.proofs.Among.{each_has_ends}
use Rattle.osc_kept.proofs.laws.each_context.Goals as goal

pub returns : goal.returns
returns c = each_has_ends c.contexts_stand_alone.ensures c.both_ends.ensures
