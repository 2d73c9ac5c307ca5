use Rattle.std.proofs.Common.{subst, sym}
use Rattle.osc_kept.specs.GoingOn.{ServerRuns}
use Rattle.std.proofs.lemmas.Result.{IfOk-weaker}
use Rattle.osc_kept.proofs.in_world.start_server_in_world.Goals as goal

pub returns-clause-begins : goal.returns-clause-begins
returns-clause-begins g c = IfOk-weaker c.start.result _ _ (λ new begun. (
  begun.0,
  begun.1,
  begun.2,
  begun.3,
  begun.8.0,
  begun.4,
  λ n w lawful saved least.
      let on = c.kept_ends_in_world.ensures.server_starts n _ w begun.2 _ begun.0 _ lawful saved begun.4 begun.8 least in
      (on.0, (_, subst (ServerRuns _ _ _) (sym begun.5) on.2, begun.7), on.1),
)) c.start.ensures.begins
