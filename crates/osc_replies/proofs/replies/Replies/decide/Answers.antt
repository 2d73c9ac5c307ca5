use Rattle.std.proofs.Common.{◌∙◌, ap, Err}
use Rattle.osc_replies.proofs.Copies.{by_reason}
use Rattle.osc_replies.proofs.replies.Replies.decide.Goals as goal

pub returns-in-Ok-decide_anew-clause-anew : goal.returns-in-Ok-decide_anew-clause-anew
returns-in-Ok-decide_anew-clause-anew g c = by_reason c.in-Err.field-0 (λ is. c.again.ensures.unknown (c.in-Err.is ∙ ap Err is)) (λ is. c.again.ensures.no_room (c.in-Err.is ∙ ap Err is))

pub returns-in-Err-decide_anew-clause-anew : goal.returns-in-Err-decide_anew-clause-anew
returns-in-Err-decide_anew-clause-anew g c = by_reason c.in-Err.field-0 (λ is. c.again.ensures.unknown (c.in-Err.is ∙ ap Err is)) (λ is. c.again.ensures.no_room (c.in-Err.is ∙ ap Err is))
