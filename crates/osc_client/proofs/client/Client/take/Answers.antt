use Rattle.osc_client.proofs.client.Client.take.Goals as goal

pub returns-clause-heard : goal.returns-clause-heard
returns-clause-heard g c = λ h continuing n own m a e. c.decide-decision.ensures.heard h continuing n own m c.outcome.result a c.outcome.ensures e

pub returns-clause-hears : goal.returns-clause-hears
returns-clause-hears g c = λ h continuing n own m a is. c.decide-decision.ensures.hears h continuing n own m c.outcome.result a c.outcome.ensures is
