use Rattle.std.proofs.lemmas.Result.{IfOk-weaker}
use Rattle.osc_context.specs.Views.{as_client}
use Rattle.osc_peer_calls.proofs.CallLemmas.{begins}
use Rattle.osc_peer_calls.proofs.beginning.start_in_list.Goals as goal

pub returns-clause-begins : goal.returns-clause-begins
returns-clause-begins g c = IfOk-weaker c.start_ahead.result _ _ (λ new (sender, received, mid, start, loads, least, rises, is, own, allowed, failures, server, client, known). (
  sender,
  received,
  mid,
  start,
  loads,
  allowed.0,
  least,
  is,
  λ w counted floor above.
      let on = c.peer_calls_in_list.ensures.starts _ (as_client c.args.context) w c.args.ahead start c.args.size sender received c.args.life_ms _ counted is allowed.1 floor above in
      begins (as_client c.args.context) w start c.args.size sender received c.args.life_ms _ new on.0 on.1 on.2 own server client above,
)) c.start_ahead.ensures.begins
