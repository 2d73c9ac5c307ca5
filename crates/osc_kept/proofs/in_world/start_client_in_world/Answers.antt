use Rattle.std.proofs.lemmas.Result.{IfOk-weaker}
use Rattle.osc_kept.proofs.in_world.start_client_in_world.Goals as goal

pub returns-clause-begins : goal.returns-clause-begins
returns-clause-begins g c = IfOk-weaker c.start.result _ _ (λ new begun. (
  begun.0,
  begun.1,
  begun.2.0.0,
  λ w lawful least.
      let on = c.kept_ends_in_world.ensures.client_starts _ _ w begun.0 _ _ _ lawful begun.2 least in
      (on.0, (_, on.2, begun.3), on.1),
)) c.start.ensures.begins
