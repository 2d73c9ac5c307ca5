-- To be believed: what a client answers to each event, after a history (RFC 8613, 8.1 and 8.4). The rows stand in the order in which they
-- are checked; the condition of each row includes that no earlier row's condition holds. h is a history, s its context, d a datagram, r a
-- pending request, n the number of pending requests that there is room for, clock the clock after the event's own moment, m a message, own
-- a response's own Partial IV or none.
use Rattle.std.specs.Prelude.{◌≡◌, ◌⊎◌, ℕ, ◌+◌, ◌<◌, ◌≤◌, ◌^◌, ◌↔◌, ◌&&◌, List, Contains, filter, length, max, not, Bool, true, false, Option, Some, None}
use Rattle.osc_coap.specs.Code.{is_response}
use Rattle.osc_coap.specs.Datagram.{Parts, IsDatagram}
use Rattle.osc_coap.specs.Fault.{HasFault}
use Rattle.osc_coap.specs.Inner.{InnerParts}
use Rattle.osc_context.specs.SecurityContext.{SecurityContext}
use Rattle.osc_protect.specs.Head.{Head, HasNoResponseHead, HasResponseHead}
use Rattle.osc_protect.specs.Protection.{Protection, Protects, requests, responses_to}
use Rattle.osc_protect.specs.Refusals.{Names, RefusesPlaintext, RefusesTag}
use Rattle.osc_protect.specs.Sealed.{SealsRequest}
use Rattle.osc_protect.specs.SealRefusals.{IsPlainRequest, RefusesPlainRequest, RefusesToSeal}
use Rattle.osc_protect.specs.declared.head_error.HeadError.TheVariants as heads
use Rattle.osc_protect.specs.declared.protect_error.ProtectError.TheVariants as seals
use Rattle.osc_client.specs.declared.apart.Apart.{Apart}
use Rattle.osc_client.specs.declared.client_outcome.RequestError.TheVariants.{NotThatKind, Unsupported, TokenInUse, PendingFull, SequenceExhausted, TooLong, NoRoom}
use Rattle.osc_client.specs.declared.pending.Wait.{Wait}
use Rattle.osc_observe.specs.Observing.{is_notification, place_of, registers}
use Rattle.osc_observe.specs.Received.{Receives}
use Rattle.osc_client.specs.ClientHistory.{History, Event, Entry, Answer, Asked, Request, Datagram, Forget, Restart, Skip, SetApart, Advance, Malformed, NotResponse, UnknownToken, Unprotected, Undecodable, BadTag, BadInner, Old, Notified, Deliver, Sent, NotSent, Took, Forgot, Restarted, Skipped, NotSkipped, IsSetApart, Advanced, apart, beside, context, next, clock, first_place, observes, pending, pending_at}

-- a request with this token is among these (RFC 7252, 5.3.2)
abbrev pub IsAmong : List ℕ → List Asked → Type 0
IsAmong token asked = (r : Asked) × Contains asked r × (r.token ≡ token)

-- the datagram is a message with a response's Type and code and with this token (RFC 7252, 4.2 and 5.3.2)
abbrev pub IsResponseWith : List ℕ → List ℕ → Type 0
IsResponseWith d token = (p : Parts) × IsDatagram p d × (is_response p.kind p.code ≡ true) × (p.token ≡ token)

-- the datagram is such a message with the token of this request, which is pending (RFC 7252, 5.3.2)
abbrev pub IsAnswerTo : History → ℕ → List ℕ → Asked → Type 0
IsAnswerTo h clock d r = IsResponseWith d r.token × Contains (pending_at h clock) r

-- the protection of the responses that a pending request waits for (RFC 8613, 4.1.3.5.2 and 8.4)
abbrev pub awaited : SecurityContext → Asked → Protection (Option ℕ)
awaited s r = responses_to s (observes r.wait) r.number

-- the datagram's head says this Partial IV, or none (RFC 8613, 8.4)
abbrev pub SaysOwn : SecurityContext → Asked → List ℕ → Option ℕ → Type 0
SaysOwn s r d own = (head : Head) × HasResponseHead d head × Names (awaited s r) head own

-- the request waits for the response with this Partial IV, or with none: its place isn't before the first one (RFC 8613, 7.4.1)
abbrev pub IsAwaited : Asked → Option ℕ → Type 0
IsAwaited r own = first_place r.wait ≤ place_of own

-- the request waits for responses with later Partial IVs than this one (RFC 8613, 7.4.1)
abbrev pub IsPassed : Wait → Option ℕ → Type 0
IsPassed wait None = ⊥
IsPassed wait (Some own) = place_of (Some own) < first_place wait

-- the request may wait for a response with this Partial IV, or with none: then what is inside tells (RFC 8613, 7.4.1)
abbrev pub MayAwait : Wait → Option ℕ → Type 0
MayAwait wait None = Unit {0}
MayAwait wait (Some own) = first_place wait ≤ place_of (Some own)

-- the datagram's head says such a Partial IV, or none (RFC 8613, 7.4.1)
abbrev pub SaysAwaited : SecurityContext → Asked → List ℕ → Type 0
SaysAwaited s r d = (own : Option ℕ) × SaysOwn s r d own × MayAwait r.wait own

-- the message continues the wait: it is a notification for a registration (RFC 7641, 3.2; RFC 8613, 4.1.3.5.2)
abbrev pub continues : Wait → InnerParts → Bool
continues wait m = observes wait && is_notification m.code m.options

-- the request waits for this message, with this Partial IV or none: in its place; or as the last response, which is in place wherever it comes if it has none
-- (RFC 8613, 7.4.1 and 8.3; RFC 7641, 3.2)
abbrev pub IsInPlace : Asked → Option ℕ → InnerParts → Type 0
IsInPlace r own m = IsAwaited r own ⊎ ((own ≡ None) × (continues r.wait m ≡ false))

-- the datagram is a notification without a Partial IV, and the registration waits for later ones (RFC 8613, 7.4.1)
abbrev pub IsFirstAgain : SecurityContext → Asked → List ℕ → Type 0
IsFirstAgain s r d = (m : InnerParts) × Protects (awaited s r) None m d × (continues r.wait m ≡ true) × (0 < first_place r.wait)

-- the answer to a response to this request, row by row from the OSCORE option on (RFC 8613, 7.4.1, 8.4 and 8.4.2; own rule: a Partial IV in the head tells what is old)
abbrev pub AskedAnswer : SecurityContext → Asked → List ℕ → Answer → Type 0
AskedAnswer s r d Unprotected = HasNoResponseHead d heads.NoOscore
AskedAnswer s r d Undecodable = HasNoResponseHead d heads.Undecodable
AskedAnswer s r d Old = ((own : Option ℕ) × SaysOwn s r d own × IsPassed r.wait own) ⊎ IsFirstAgain s r d
AskedAnswer s r d BadTag = SaysAwaited s r d × RefusesTag (awaited s r) d
AskedAnswer s r d BadInner = SaysAwaited s r d × RefusesPlaintext (awaited s r) d
AskedAnswer s r d (Notified received number) =
    (number ≡ r.number) × (own : Option ℕ) × IsAwaited r own × Receives (awaited s r) own d received × (continues r.wait received.message ≡ true)
AskedAnswer s r d (Deliver received number) =
    (number ≡ r.number) × (own : Option ℕ) × IsInPlace r own received.message × Receives (awaited s r) own d received × (continues r.wait received.message ≡ false)
AskedAnswer s r d answer = ⊥

-- a row of a pending request that has the datagram's token (RFC 7252, 5.3.2)
abbrev pub PendingAnswer : History → ℕ → List ℕ → Answer → Type 0
PendingAnswer h clock d answer = (r : Asked) × IsAnswerTo h clock d r × AskedAnswer (context h) r d answer

-- the answer to a datagram, row by row (RFC 8613, 8.4; own rule: the order)
abbrev pub ResponseAnswer : History → ℕ → List ℕ → Answer → Type 0
ResponseAnswer h clock d (Malformed fault place) = HasFault d fault place
ResponseAnswer h clock d NotResponse = HasNoResponseHead d heads.NotThatKind
ResponseAnswer h clock d UnknownToken = (token : List ℕ) × IsResponseWith d token × (IsAmong token (pending_at h clock) → ⊥)
ResponseAnswer h clock d answer = PendingAnswer h clock d answer

-- the requests that are pending then, but one that gives way to this message (RFC 7641, 3.3.1 and 3.6)
abbrev pub staying : History → ℕ → Parts → List Asked
staying h clock p = beside (context h).features p (pending_at h clock)

-- a request that can be sealed, and whose token isn't pending, or gives way (RFC 7252, 5.3.1; RFC 7641, 3.3.1 and 3.6)
abbrev pub IsNewRequest : History → ℕ → Parts → Type 0
IsNewRequest h clock p = IsPlainRequest (context h).features p × (IsAmong p.token (staying h clock p) → ⊥)

-- the message registers an observation (RFC 7641, 2; RFC 8613, 4.1.3.5.1)
abbrev pub is_registration : History → Parts → Bool
is_registration h p = registers (context h).features p.code p.options

-- the request waits for notifications, or the other way round (RFC 8613, 4.1.3.5.2)
abbrev pub is_of_kind : Bool → Wait → Bool
is_of_kind true wait = observes wait
is_of_kind false wait = not (observes wait)

-- the registrations among these requests, or the others (RFC 8613, 4.1.3.5.2)
abbrev pub of_kind : Bool → List Asked → List Asked
of_kind registering requests = filter (λ r. is_of_kind registering r.wait) requests

-- how many places there are for registrations, or for the others (own rule)
abbrev pub places_for : Bool → Apart → ℕ
places_for true a = a.registrations
places_for false a = a.others

-- registrations have places of their own, and these requests take all places for registrations, or all for the others (own rule)
abbrev pub AreCrowded : Option Apart → Bool → List Asked → Type 0
AreCrowded apart registering requests = (a : Apart) × (apart ≡ Some a) × (places_for registering a ≤ length (of_kind registering requests))

-- all places of this message's kind are taken, and no request gives way to it (own rule)
abbrev pub IsCrowded : History → ℕ → Parts → Type 0
IsCrowded h clock p = (staying h clock p ≡ pending_at h clock) × AreCrowded (apart h) (is_registration h p) (pending_at h clock)

-- there is no place for this message beside n pending requests (own rule)
abbrev pub IsFull : ℕ → History → ℕ → Parts → Type 0
IsFull n h clock p = (n ≤ length (staying h clock p)) ⊎ IsCrowded h clock p

-- there is a place for this message among n (own rule)
abbrev pub HasPlace : ℕ → History → ℕ → Parts → Type 0
HasPlace n h clock p = (length (staying h clock p) < n) × (IsCrowded h clock p → ⊥)

-- such a request, with a place for it among n, and a number left for it (RFC 8613, 7.2.1; own rule: the place)
abbrev pub CanAsk : ℕ → History → ℕ → Parts → Type 0
CanAsk n h clock p = IsNewRequest h clock p × HasPlace n h clock p × (next h < 2 ^ 40)

-- the answer to Request, row by row (RFC 8613, 8.1; own rule: the order)
abbrev pub RequestAnswer : ℕ → History → ℕ → Parts → ℕ → Entry → Type 0
RequestAnswer n h clock p room (NotSent NotThatKind) = RefusesPlainRequest (context h).features p seals.NotThatKind
RequestAnswer n h clock p room (NotSent (Unsupported k)) = RefusesPlainRequest (context h).features p (seals.Unsupported k)
RequestAnswer n h clock p room (NotSent TokenInUse) = IsPlainRequest (context h).features p × IsAmong p.token (staying h clock p)
RequestAnswer n h clock p room (NotSent PendingFull) = IsNewRequest h clock p × IsFull n h clock p
RequestAnswer n h clock p room (NotSent SequenceExhausted) = IsNewRequest h clock p × HasPlace n h clock p × (2 ^ 40 ≤ next h)
RequestAnswer n h clock p room (NotSent TooLong) = CanAsk n h clock p × RefusesToSeal (requests (context h)) (next h) p room seals.TooLong
RequestAnswer n h clock p room (NotSent NoRoom) = CanAsk n h clock p × RefusesToSeal (requests (context h)) (next h) p room seals.NoRoom
RequestAnswer n h clock p room (Sent bytes) = CanAsk n h clock p × SealsRequest (context h) (next h) p bytes × (length bytes ≤ room)
RequestAnswer n h clock p room entry = ⊥

-- the answer to Skip: no number from 2 ^ 40 on is passed over (RFC 8613, 7.2.1)
abbrev pub SkipAnswer : History → ℕ → Entry → Type 0
SkipAnswer h count NotSkipped = 2 ^ 40 < next h + count
SkipAnswer h count Skipped = next h + count ≤ 2 ^ 40
SkipAnswer h count entry = ⊥

-- the entry is the answer to the event by a client with room for n pending requests (RFC 8613, 8.1 and 8.4)
abbrev pub ClientAnswer : ℕ → History → Event → Entry → Type 0
ClientAnswer n h (Request now p room) entry = RequestAnswer n h (max (clock h) now) p room entry
ClientAnswer n h (Datagram now d) (Took answer) = ResponseAnswer h (max (clock h) now) d answer
ClientAnswer n h (Forget token) (Forgot was_pending) = (was_pending ≡ true) ↔ IsAmong token (pending h)
ClientAnswer n h (Restart first) Restarted = Unit {0}
ClientAnswer n h (Skip count) entry = SkipAnswer h count entry
ClientAnswer n h (SetApart places) IsSetApart = Unit {0}
ClientAnswer n h (Advance now) Advanced = Unit {0}
ClientAnswer n h event entry = ⊥

-- the datagram has the token of a pending request, and protects this message under a Partial IV of its own or none that the request waits for, as a
-- response to the number of that request; the wait continues, or not (RFC 8613, 7.4.1 and 8.4)
pub record Hears (h : History) (now : ℕ) (d : List ℕ) (continuing : Bool) (number : ℕ) (own : Option ℕ) (m : InnerParts) : Type 0 where
  pub to : Asked
  pub number_is : to.number ≡ number
  pub answers : IsAnswerTo h (max (clock h) now) d to
  pub awaited_is : IsInPlace to own m
  pub protects : Protects (awaited (context h) to) own m d
  pub wait_is : continues to.wait m ≡ continuing

-- the message is the last response to that request (RFC 8613, 8.4)
abbrev pub Delivers : History → ℕ → List ℕ → ℕ → Option ℕ → InnerParts → Type 0
Delivers h now d number own m = Hears h now d false number own m

-- the message is a notification for that request (RFC 8613, 8.4.2)
abbrev pub Notifies : History → ℕ → List ℕ → ℕ → Option ℕ → InnerParts → Type 0
Notifies h now d number own m = Hears h now d true number own m

-- whether an answer is a notification or else a delivery, and its request's number, the response's own Partial IV or none, and the message (own rule)
abbrev pub told : Answer → Option (Bool × ℕ × Option ℕ × InnerParts)
told (Notified received number) = Some (true, number, received.number, received.message)
told (Deliver received number) = Some (false, number, received.number, received.message)
told answer = None
