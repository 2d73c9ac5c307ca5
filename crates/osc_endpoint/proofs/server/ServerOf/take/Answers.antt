use Rattle.osc_endpoint.proofs.server.ServerOf.take.Goals as goal

pub returns-clause-delivered : goal.returns-clause-delivered
returns-clause-delivered g c = λ h i n m a e. c.decide-decision.ensures.delivered h i n m c.outcome.result a c.outcome.ensures.shows e

pub returns-clause-delivers : goal.returns-clause-delivers
returns-clause-delivers g c = λ h i n m a is. c.decide-decision.ensures.delivers h i n m c.outcome.result a c.outcome.ensures.shows is
