use Rattle.std.proofs.Common.{refl}
use Rattle.osc_client.proofs.Asking.{advanced, differ_alive}
use Rattle.osc_client.proofs.client_state.ClientState.advance.Goals as goal

pub returns-clause-follows : goal.returns-clause-follows
returns-clause-follows g c = λ h a. advanced _ _ h c.args.now a refl refl refl refl c.max-self.ensures c.drop_expired.ensures.requests

pub returns-clause-apart : goal.returns-clause-apart
returns-clause-apart g c = λ d. differ_alive _ _ _ _ c.drop_expired.ensures.requests d
