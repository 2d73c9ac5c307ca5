-- To be believed: which status and which detail a refusal of a server has, and what C reads of each of its answers.
use Rattle.std.specs.Prelude.{◌≡◌, ℕ, List}
use Rattle.osc_life.specs.ServerHistory.{Answer, BadInner, BadTag, Challenge as Challenged, Deliver, Entry, Malformed, NoContext as NoSuchKid, NotReplied, NotRequest, Plain, Replay as Replayed, Replied, SequenceExhausted as NoOwnLeft, TicketValues, Took, Undecodable as NotDecoded}
use Rattle.osc_life.specs.declared.outcome.Outcome.{Outcome}
use Rattle.osc_life.specs.declared.outcome.Outcome.TheVariants as outcomes
use Rattle.osc_life.specs.declared.server_error.ReplyError.{ReplyError}
use Rattle.osc_life.specs.declared.server_error.ReplyError.TheVariants as replies
use Rattle.osc_status.specs.Statuses.{code, format_status}
use Rattle.osc_status.specs.declared.status.Status.{Status}
use Rattle.osc_status.specs.declared.status.Status.TheVariants.{StaleTicket, NotThatKind, NoOscore, Undecodable, NoContext, Replay, Tag, Inner, Challenge, Unsupported, SequenceExhausted, TooLong, NoRoom, NotObserving, NotNotification}

-- a refusal to reply or to notify has the status of its name, and the number of the option as its detail, or else 0; no end of C has a keeper (own rule)
abbrev pub IsReplyStatus : ReplyError → Status → ℕ → Type 0
IsReplyStatus replies.KeeperFailed status detail = ⊥
IsReplyStatus replies.StaleTicket status detail = (status ≡ StaleTicket) × (detail ≡ 0)
IsReplyStatus replies.NotObserving status detail = (status ≡ NotObserving) × (detail ≡ 0)
IsReplyStatus replies.NotThatKind status detail = (status ≡ NotThatKind) × (detail ≡ 0)
IsReplyStatus (replies.Unsupported n) status detail = (status ≡ Unsupported) × (detail ≡ n)
IsReplyStatus replies.NotNotification status detail = (status ≡ NotNotification) × (detail ≡ 0)
IsReplyStatus replies.SequenceExhausted status detail = (status ≡ SequenceExhausted) × (detail ≡ 0)
IsReplyStatus replies.TooLong status detail = (status ≡ TooLong) × (detail ≡ 0)
IsReplyStatus replies.NoRoom status detail = (status ≡ NoRoom) × (detail ≡ 0)

-- the status of an outcome, and its detail: the place of a fault, or else 0 (own rule)
abbrev pub IsOutcomeStatus : Outcome → Status → ℕ → Type 0
IsOutcomeStatus (outcomes.Malformed e) status detail = (status ≡ format_status e.fault) × (detail ≡ e.place)
IsOutcomeStatus outcomes.NotRequest status detail = (status ≡ NotThatKind) × (detail ≡ 0)
IsOutcomeStatus outcomes.Plain status detail = (status ≡ NoOscore) × (detail ≡ 0)
IsOutcomeStatus outcomes.Undecodable status detail = (status ≡ Undecodable) × (detail ≡ 0)
IsOutcomeStatus outcomes.NoContext status detail = (status ≡ NoContext) × (detail ≡ 0)
IsOutcomeStatus outcomes.Replay status detail = (status ≡ Replay) × (detail ≡ 0)
IsOutcomeStatus outcomes.BadTag status detail = (status ≡ Tag) × (detail ≡ 0)
IsOutcomeStatus outcomes.BadInner status detail = (status ≡ Inner) × (detail ≡ 0)
IsOutcomeStatus (outcomes.Challenge echo issued) status detail = (status ≡ Challenge) × (detail ≡ 0)
IsOutcomeStatus outcomes.SequenceExhausted status detail = (status ≡ SequenceExhausted) × (detail ≡ 0)
IsOutcomeStatus outcomes.KeeperFailed status detail = ⊥
IsOutcomeStatus (outcomes.Deliver o t) status detail = ⊥

-- the status of an answer, and its detail: the place of a fault, or else 0 (own rule)
abbrev pub IsAnswerStatus : Answer → Status → ℕ → Type 0
IsAnswerStatus (Malformed fault place) status detail = (status ≡ format_status fault) × (detail ≡ place)
IsAnswerStatus NotRequest status detail = (status ≡ NotThatKind) × (detail ≡ 0)
IsAnswerStatus Plain status detail = (status ≡ NoOscore) × (detail ≡ 0)
IsAnswerStatus NotDecoded status detail = (status ≡ Undecodable) × (detail ≡ 0)
IsAnswerStatus NoSuchKid status detail = (status ≡ NoContext) × (detail ≡ 0)
IsAnswerStatus Replayed status detail = (status ≡ Replay) × (detail ≡ 0)
IsAnswerStatus BadTag status detail = (status ≡ Tag) × (detail ≡ 0)
IsAnswerStatus (BadInner i n) status detail = (status ≡ Inner) × (detail ≡ 0)
IsAnswerStatus (Challenged i n echo issued) status detail = (status ≡ Challenge) × (detail ≡ 0)
IsAnswerStatus NoOwnLeft status detail = (status ≡ SequenceExhausted) × (detail ≡ 0)
IsAnswerStatus (Deliver received ticket) status detail = ⊥

-- for the answer to a datagram: 0 and the ticket, or the number of its status and the detail; and the reply (own rule)
abbrev pub ReadsServing : Entry → ℕ → ℕ → TicketValues → List ℕ → Type 0
ReadsServing (Took (Deliver received t) bytes) result detail ticket reply = (result ≡ 0) × (ticket ≡ t) × (reply ≡ bytes)
ReadsServing (Took answer bytes) result detail ticket reply = (status : Status) × (result ≡ code status) × IsAnswerStatus answer status detail × (reply ≡ bytes)
ReadsServing entry result detail ticket reply = ⊥

-- for the answer to Reply, or to Notify: 0 and the sealed text, or the number of the refusal's status and the detail (own rule)
abbrev pub ReadsReplying : Entry → ℕ → ℕ → List ℕ → Type 0
ReadsReplying (Replied bytes) result detail text = (result ≡ 0) × (text ≡ bytes)
ReadsReplying (NotReplied e) result detail text = (status : Status) × (result ≡ code status) × IsReplyStatus e status detail
ReadsReplying entry result detail text = ⊥
