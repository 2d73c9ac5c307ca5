use Rattle.osc_replies.proofs.SameReplies.{same_message, same_reply_by}
use Rattle.osc_replies.proofs.laws.same_reply.Goals as goal

pub returns-clause-bytes : goal.returns-clause-bytes
returns-clause-bytes c = same_reply_by c.one_option_value.ensures.one_value c.one_datagram.ensures.one

pub returns-clause-message : goal.returns-clause-message
returns-clause-message c = same_message
