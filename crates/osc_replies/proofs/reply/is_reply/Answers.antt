use Rattle.osc_replies.proofs.reply.is_reply.Goals as goal

pub returns-in-Err-clause-no : goal.returns-in-Err-clause-no
returns-in-Err-clause-no c = λ e p is. c.one_datagram.ensures.never_both p _ _ _ is.datagram c.in-Err.ensures.refused
