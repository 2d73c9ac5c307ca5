use Rattle.osc_context.specs.Views.{as_server}
use Rattle.osc_life.specs.ServerHistory.{Begin}
use Rattle.osc_kept_ends.proofs.ServerSteps.{added_alone}
use Rattle.osc_kept_ends.proofs.kept_server.KeptServer.begin.Goals as goal

pub returns-clause-kept : goal.returns-clause-kept
returns-clause-kept g c =
    let a = c.in-Ok.ensures.follows Begin c.new-server.ensures in
    added_alone _ (as_server c.args.context) c.args.start c.args.size c.in-Ok.field-0 _ a (c.in-Ok.ensures.answered Begin c.new-server.ensures).1.2 c.requires
