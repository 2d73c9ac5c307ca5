use Rattle.osc_client.proofs.client.Client.decide.Goals as goal

pub returns-clause-heard : goal.returns-clause-heard
returns-clause-heard g c = λ h continuing n own m outcome a shows e. c.decide.ensures.heard h continuing n own m outcome a.says shows e

pub returns-clause-hears : goal.returns-clause-hears
returns-clause-hears g c = λ h continuing n own m outcome a shows is. c.decide.ensures.hears h continuing n own m outcome a.says shows is
