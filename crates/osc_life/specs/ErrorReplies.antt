-- For the proofs: the errors that the code names.
use Rattle.osc_life.specs.declared.error_reply.ErrorReply.{ErrorReply}
use Rattle.osc_life.specs.declared.error_reply.ErrorReply.TheVariants.{Undecodable, NoContext, Replay, BadTag}
use Rattle.osc_life.specs.Replies.{ErrorText, undecodable, no_context, replay, bad_tag}

-- the code and text of an error (own rule)
abbrev pub text_of : ErrorReply → ErrorText
text_of Undecodable = undecodable
text_of NoContext = no_context
text_of Replay = replay
text_of BadTag = bad_tag
