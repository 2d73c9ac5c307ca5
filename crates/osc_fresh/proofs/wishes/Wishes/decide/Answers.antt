use Rattle.std.proofs.Common.{refl}
use Rattle.osc_fresh.proofs.Challenging.{weaker}
use Rattle.osc_fresh.proofs.wishes.Wishes.decide.Goals as goal

pub returns-in-Ok-clause-stale : goal.returns-in-Ok-clause-stale
returns-in-Ok-clause-stale g c = weaker c.admit.result (λ x. record {
  decided = c.in-Ok.decided;
  before = c.decide.new.out;
  between = c.decide.new.self;
  decides = c.in-Ok.ensures.answered;
  behind = c.in-Ok.ensures.behind;
  kept = c.in-Ok.ensures.kept;
  failures = c.in-Ok.ensures.worked refl;
  client = c.decide.ensures.client;
  rises = c.decide.ensures.rises;
  asks = x;
}) c.admit.ensures.stale
