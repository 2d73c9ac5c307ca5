use Rattle.osc_coap.specs.Views.{parts_of}
use Rattle.osc_replies.proofs.identity.identity_of.Goals as goal

pub returns-in_default-clause-none : goal.returns-in_default-clause-none
returns-in_default-clause-none c = λ n option text asks. c.one_head.ensures.request.never_shown (parts_of c.args.message.now) asks.head _ asks.shows c.in_default.ensures.refused
