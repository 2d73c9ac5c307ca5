use Rattle.osc_client.specs.Agrees.{client_parts}
use Rattle.osc_client.proofs.client.Client.forget.Goals as goal

pub returns-clause-answered : goal.returns-clause-answered
returns-clause-answered g c = λ h a. c.forget_in.ensures.answered g.row.N (client_parts c.args.self.now) h a.says

pub returns-clause-follows : goal.returns-clause-follows
returns-clause-follows g c = λ h a. record { says = c.forget_in.ensures.follows (client_parts c.args.self.now) h a.says }
