use Rattle.std.proofs.Common.{rules, ap}
use Rattle.osc_life.specs.Views.{delivery_of}
use Rattle.osc_examples.proofs.endpoint.obeys.Goals as goal

pub returns-in-Deliver : goal.returns-in-Deliver
returns-in-Deliver c = λ yes h a. (_, _, _, c.decide-decision.ensures.delivered h _ _ _ c.outcome.result a c.outcome.ensures.shows (ap delivery_of c.in-Deliver.is), search rules)
