-- To be believed: the history of a client: what happened to it, each event with its entry. h is a history, d a datagram. Moments are in
-- milliseconds.
use Rattle.std.specs.Prelude.{◌≡◌, ℕ, ◌+◌, ◌-◌, ◌||◌, ◌&&◌, List, [], ◌∷◌, ◌++◌, Bool, true, false, Option, None, bytes_eq, filter, map, max, nat_le, nat_lt, not, if◌then◌else◌}
use Rattle.osc_coap.specs.declared.format_error.Fault.{Fault}
use Rattle.osc_coap.specs.Datagram.{Parts}
use Rattle.osc_context.specs.SecurityContext.{SecurityContext}
use Rattle.osc_context.specs.declared.features.Features.{Features}
use Rattle.osc_client.specs.declared.apart.Apart.{Apart}
use Rattle.osc_client.specs.declared.client_outcome.RequestError.{RequestError}
use Rattle.osc_client.specs.declared.pending.Wait.{Wait}
use Rattle.osc_client.specs.declared.pending.Wait.TheVariants.{Once, Observing}
use Rattle.osc_observe.specs.Observing.{cancels, place_of, registers}
use Rattle.osc_observe.specs.Received.{Received}

-- a request that was sealed: its token, its number, the clock at that moment, and what it waits for (own rule)
pub record Asked : Type 0 where
  pub token : List ℕ
  pub number : ℕ
  pub moment : ℕ
  pub wait : Wait

-- what a request waits for when it is sealed: a registration for responses from the first place on (RFC 8613, 4.1.3.5.1)
abbrev pub wait_of : Features → Parts → Wait
wait_of x p = if registers x p.code p.options then Observing 0 else Once

-- whether the request waits for notifications (RFC 8613, 4.1.3.5.2)
abbrev pub observes : Wait → Bool
observes Once = false
observes (Observing from) = true

-- the first place at which a response isn't old (RFC 8613, 7.4.1)
abbrev pub first_place : Wait → ℕ
first_place Once = 0
first_place (Observing from) = from

-- what a registration waits for after a response at this place: those at later places (RFC 8613, 7.4.1)
abbrev pub after_place : ℕ → Wait → Wait
after_place place Once = Once
after_place place (Observing from) = Observing (place + 1)

-- what happens to a client; room is the length of the buffer for a request, Skip passes over so many Sender Sequence Numbers, since another end of the same
-- Sender Key has them, SetApart says whether registrations have places of their own from then on, Advance only moves the clock (own rule)
pub data Event : Type 0 where
  Request : (now : ℕ) (plain : Parts) (room : ℕ) → Event
  Datagram : (now : ℕ) (bytes : List ℕ) → Event
  Forget : (token : List ℕ) → Event
  Restart : (next : ℕ) → Event
  Skip : (count : ℕ) → Event
  SetApart : (places : Option Apart) → Event
  Advance : (now : ℕ) → Event

-- the answer to a datagram (own rule)
pub data Answer : Type 0 where
  Malformed : (fault : Fault) (place : ℕ) → Answer
  NotResponse : Answer
  UnknownToken : Answer
  Unprotected : Answer
  Undecodable : Answer
  BadTag : Answer
  BadInner : Answer
  Old : Answer
  Notified : (received : Received) (number : ℕ) → Answer
  Deliver : (received : Received) (number : ℕ) → Answer

-- the result of an event (own rule)
pub data Entry : Type 0 where
  Sent : (bytes : List ℕ) → Entry
  NotSent : (refusal : RequestError) → Entry
  Took : (answer : Answer) → Entry
  Forgot : (was_pending : Bool) → Entry
  Restarted : Entry
  Skipped : Entry
  NotSkipped : Entry
  IsSetApart : Entry
  Advanced : Entry

-- a history: a new client with its context, its first number and how long a request is pending, or one more event and its entry (own rule)
pub data History : Type 0 where
  New : (context : SecurityContext) (first life_ms : ℕ) → History
  Then : (before : History) (event : Event) (entry : Entry) → History

-- the context (RFC 8613, 3.1)
abbrev pub context : History → SecurityContext
context (New s first ms) = s
context (Then h event entry) = context h

-- how long a request is pending, in milliseconds (own rule)
abbrev pub life_ms : History → ℕ
life_ms (New s first ms) = ms
life_ms (Then h event entry) = life_ms h

-- how many places registrations have, and how many other requests, if these are apart: as it was said last, and at first they share all places (own rule)
abbrev pub apart : History → Option Apart
apart (New s first ms) = None
apart (Then h (SetApart places) entry) = places
apart (Then h event entry) = apart h

-- the clock after an event: the later of the clock before and the event's own moment, if it has one (own rule)
abbrev pub clock_by : Event → ℕ → ℕ
clock_by (Request now plain room) before = max before now
clock_by (Datagram now bytes) before = max before now
clock_by (Advance now) before = max before now
clock_by event before = before

-- the clock: the greatest moment so far, 0 at first (own rule)
abbrev pub clock : History → ℕ
clock (New s first ms) = 0
clock (Then h event entry) = clock_by event (clock h)

-- the next number: the one at the start or at the last restart, plus how many requests were sealed since, and how many numbers were passed over (RFC 8613, 7.2.1)
abbrev pub next : History → ℕ
next (New s first ms) = first
next (Then h (Request now plain room) (Sent bytes)) = next h + 1
next (Then h (Restart first) entry) = first
next (Then h (Skip count) Skipped) = next h + count
next (Then h event entry) = next h

-- the requests without those of this token (RFC 7252, 5.3.2)
abbrev pub without : List ℕ → List Asked → List Asked
without token requests = filter (λ r. not (bytes_eq r.token token)) requests

-- the request gives way to this message: it waits for notifications under the message's token, and the message registers anew, or cancels (RFC 7641, 3.3.1 and 3.6)
abbrev pub gives_way : Features → Parts → Asked → Bool
gives_way x p r = bytes_eq r.token p.token && (observes r.wait && (registers x p.code p.options || cancels x p.code p.options))

-- the requests beside which this message is sealed: all that don't give way to it (RFC 7641, 3.3.1 and 3.6)
abbrev pub beside : Features → Parts → List Asked → List Asked
beside x p requests = filter (λ r. not (gives_way x p r)) requests

-- the request is still pending at this moment: it is at most ms milliseconds old, or it is a registration that was notified (own rule)
abbrev pub is_alive : ℕ → ℕ → Asked → Bool
is_alive moment ms r = nat_lt 0 (first_place r.wait) || nat_le (moment - r.moment) ms

-- the requests that are still pending at this moment (own rule)
abbrev pub alive : ℕ → ℕ → List Asked → List Asked
alive moment ms requests = filter (is_alive moment ms) requests

-- the request, after a response at this place to the requests of this token (RFC 8613, 7.4.1)
abbrev pub after_response : List ℕ → ℕ → Asked → Asked
after_response token place r = if bytes_eq r.token token then record r { wait = after_place place r.wait } else r

-- the requests that were sealed since the start or the last restart, oldest first, except those whose token was delivered or forgotten
-- since, those that gave way to a later one, and those whose time had passed at a notification (RFC 7252, 5.3.2; RFC 7641, 3.6; RFC 8613, 7.4.1 and 8.4)
abbrev pub asked : History → List Asked
asked (New s first ms) = []
asked (Then h (Request now plain room) (Sent bytes)) =
    beside (context h).features plain (asked h) ++ record { token = plain.token; number = next h; moment = max (clock h) now; wait = wait_of (context h).features plain } ∷ []
asked (Then h (Datagram now d) (Took (Notified received number))) = map (after_response received.token (place_of received.number)) (alive (max (clock h) now) (life_ms h) (asked h))
asked (Then h (Datagram now d) (Took (Deliver received number))) = without received.token (asked h)
asked (Then h (Forget token) entry) = without token (asked h)
asked (Then h (Restart first) entry) = []
asked (Then h event entry) = asked h

-- the requests that are pending when the clock has reached this moment, oldest first (own rule: the time)
abbrev pub pending_at : History → ℕ → List Asked
pending_at h moment = alive moment (life_ms h) (asked h)

-- the pending requests, oldest first (own rule: the time)
abbrev pub pending : History → List Asked
pending h = pending_at h (clock h)

-- the history of a client that has another context from then on: that of a new client, whose clock and places go on (own rule)
abbrev pub replaced : SecurityContext → ℕ → History → History
replaced s first h = Then (Then (New s first (life_ms h)) (SetApart (apart h)) IsSetApart) (Advance (clock h)) Advanced

-- both contexts have the same Sender Key, each seen by its client (RFC 8613, 3.1)
abbrev pub HaveSameKey : SecurityContext → SecurityContext → Type 0
HaveSameKey s t = s.client_key ≡ t.client_key
