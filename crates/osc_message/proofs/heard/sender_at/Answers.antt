use Rattle.std.proofs.Common.{ap, refl}
use Rattle.osc_message.specs.HearingViews.{heard_of, seen_of}
use Rattle.osc_message.proofs.heard.sender_at.Goals as goal

pub returns-in-Some-clause-from : goal.returns-in-Some-clause-from
returns-in-Some-clause-from c = (heard_of c.in-Some.arrival, ap seen_of c.in-Some.is, c.as_slice.ensures.value, refl)
