-- To be believed: why an end doesn't begin, which status and which detail a refusal of a client has, and what C reads of each of its answers.
use Rattle.std.specs.Prelude.{◌≡◌, ℕ, Bool, false, true, List}
use Rattle.osc_context.specs.declared.partial_iv.Piv.{Piv}
use Rattle.osc_protect.specs.declared.opened.Opened.{Opened}
use Rattle.osc_client.specs.ClientHistory.{Answer, BadInner, BadTag, Deliver, Entry, Forgot, Malformed, NotResponse, NotSent, Notified, Old, Sent, Took, Undecodable as NoAnswer, UnknownToken as Unknown, Unprotected}
use Rattle.osc_observe.specs.Received.{Received}
use Rattle.osc_client.specs.declared.client_outcome.ClientOutcome.{ClientOutcome}
use Rattle.osc_client.specs.declared.client_outcome.ClientOutcome.TheVariants as outcomes
use Rattle.osc_client.specs.declared.client_outcome.RequestError.{RequestError}
use Rattle.osc_client.specs.declared.client_outcome.RequestError.TheVariants as requests
use Rattle.osc_status.specs.Statuses.{code, format_status}
use Rattle.osc_status.specs.declared.status.Status.{Status}
use Rattle.osc_status.specs.declared.status.Status.TheVariants.{BadHandle, BadNumber, NotThatKind, UnknownToken, NoOscore, Undecodable, Tag, Inner, Unsupported, TokenInUse, PendingFull, SequenceExhausted, TooLong, NoRoom, NotPending, Old as OldStatus}

-- why an end doesn't begin (own rule)
pub data RefusesNumber (IsHandle IsNumber : Type 0) (status : Status) : Type 0 where
  bad_handle : (IsHandle → ⊥) → status ≡ BadHandle → RefusesNumber IsHandle IsNumber status
  bad_number : IsHandle → (IsNumber → ⊥) → status ≡ BadNumber → RefusesNumber IsHandle IsNumber status

-- a refusal to ask has the status of its name, and the number of the option as its detail, or else 0; no end of C has a keeper (own rule)
abbrev pub IsAskingStatus : RequestError → Status → ℕ → Type 0
IsAskingStatus requests.NotThatKind status detail = (status ≡ NotThatKind) × (detail ≡ 0)
IsAskingStatus (requests.Unsupported n) status detail = (status ≡ Unsupported) × (detail ≡ n)
IsAskingStatus requests.TokenInUse status detail = (status ≡ TokenInUse) × (detail ≡ 0)
IsAskingStatus requests.PendingFull status detail = (status ≡ PendingFull) × (detail ≡ 0)
IsAskingStatus requests.SequenceExhausted status detail = (status ≡ SequenceExhausted) × (detail ≡ 0)
IsAskingStatus requests.TooLong status detail = (status ≡ TooLong) × (detail ≡ 0)
IsAskingStatus requests.NoRoom status detail = (status ≡ NoRoom) × (detail ≡ 0)
IsAskingStatus requests.KeeperFailed status detail = ⊥

-- the answer that a request gets: a notification, after which it stays pending, or its last response (RFC 8613, 8.4 and 8.4.2)
abbrev pub heard_as : Bool → Received → ℕ → Answer
heard_as true received number = Notified received number
heard_as false received number = Deliver received number

-- the same as an outcome (how the code is seen)
abbrev pub shown_as : Bool → Opened → Piv → ClientOutcome
shown_as true o number = outcomes.Notified o number
shown_as false o number = outcomes.Deliver o number

-- the status of an outcome, and its detail: the place of a fault, or else 0 (own rule)
abbrev pub IsOutcomeStatus : ClientOutcome → Status → ℕ → Type 0
IsOutcomeStatus (outcomes.Malformed e) status detail = (status ≡ format_status e.fault) × (detail ≡ e.place)
IsOutcomeStatus outcomes.NotResponse status detail = (status ≡ NotThatKind) × (detail ≡ 0)
IsOutcomeStatus outcomes.UnknownToken status detail = (status ≡ UnknownToken) × (detail ≡ 0)
IsOutcomeStatus outcomes.Unprotected status detail = (status ≡ NoOscore) × (detail ≡ 0)
IsOutcomeStatus outcomes.Undecodable status detail = (status ≡ Undecodable) × (detail ≡ 0)
IsOutcomeStatus outcomes.Old status detail = (status ≡ OldStatus) × (detail ≡ 0)
IsOutcomeStatus outcomes.BadTag status detail = (status ≡ Tag) × (detail ≡ 0)
IsOutcomeStatus outcomes.BadInner status detail = (status ≡ Inner) × (detail ≡ 0)
IsOutcomeStatus (outcomes.Notified o number) status detail = ⊥
IsOutcomeStatus (outcomes.Deliver o number) status detail = ⊥

-- the status of an answer, and its detail: the place of a fault, or else 0 (own rule)
abbrev pub IsAnswerStatus : Answer → Status → ℕ → Type 0
IsAnswerStatus (Malformed fault place) status detail = (status ≡ format_status fault) × (detail ≡ place)
IsAnswerStatus NotResponse status detail = (status ≡ NotThatKind) × (detail ≡ 0)
IsAnswerStatus Unknown status detail = (status ≡ UnknownToken) × (detail ≡ 0)
IsAnswerStatus Unprotected status detail = (status ≡ NoOscore) × (detail ≡ 0)
IsAnswerStatus NoAnswer status detail = (status ≡ Undecodable) × (detail ≡ 0)
IsAnswerStatus Old status detail = (status ≡ OldStatus) × (detail ≡ 0)
IsAnswerStatus BadTag status detail = (status ≡ Tag) × (detail ≡ 0)
IsAnswerStatus BadInner status detail = (status ≡ Inner) × (detail ≡ 0)
IsAnswerStatus (Notified received number) status detail = ⊥
IsAnswerStatus (Deliver received number) status detail = ⊥

-- what C reads of the answer to Request: 0 and the sealed text, or the number of the refusal's status and the detail (own rule)
abbrev pub ReadsAsking : Entry → ℕ → ℕ → List ℕ → Type 0
ReadsAsking (Sent bytes) result detail text = (result ≡ 0) × (text ≡ bytes)
ReadsAsking (NotSent e) result detail text = (status : Status) × (result ≡ code status) × IsAskingStatus e status detail
ReadsAsking entry result detail text = ⊥

-- for the answer to a datagram: 0, the request's number and whether that stays pending, or the number of its status and the detail (own rule)
abbrev pub ReadsTaking : Entry → ℕ → ℕ → ℕ → Bool → Type 0
ReadsTaking (Took (Notified received n)) result detail request stays = (result ≡ 0) × (request ≡ n) × (stays ≡ true)
ReadsTaking (Took (Deliver received n)) result detail request stays = (result ≡ 0) × (request ≡ n) × (stays ≡ false)
ReadsTaking (Took answer) result detail request stays = (status : Status) × (result ≡ code status) × IsAnswerStatus answer status detail
ReadsTaking entry result detail request stays = ⊥

-- for the answer to Forget (own rule)
abbrev pub ReadsForgetting : Entry → ℕ → Type 0
ReadsForgetting (Forgot true) result = result ≡ 0
ReadsForgetting (Forgot false) result = result ≡ code NotPending
ReadsForgetting entry result = ⊥
