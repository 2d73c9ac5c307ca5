-- To be believed: what holds for every history of a client whose entries are all its answers: contracts of laws.rt. n is the number of
-- pending requests that there is room for, h a history, s a security context, c how many restarts there were, r and q sealed requests.
use Rattle.std.specs.Prelude.{◌≡◌, ◌≢◌, ℕ, ◌+◌, ◌<◌, ◌≤◌, ◌==◌, List, [], ◌∷◌, length, if◌then◌else◌}
use Rattle.osc_coap.specs.Datagram.{Parts, IsDatagram}
use Rattle.osc_coap.specs.OptionNumbers.{oscore}
use Rattle.osc_coap.specs.Search.{values_at}
use Rattle.osc_context.specs.Nonce.{nonce_of}
use Rattle.osc_context.specs.OscoreValue.{IsOscoreValue}
use Rattle.osc_context.specs.SecurityContext.{SecurityContext}
use Rattle.osc_protect.specs.Usage.{value_of_request}
use Rattle.osc_client.specs.ClientAnswer.{ClientAnswer}
use Rattle.osc_client.specs.ClientHistory.{History, New, Then, Event, Entry, Request, Restart, Sent, Skip, Skipped, context, next}
use Rattle.osc_laws.specs.Laws.{Pairwise}

-- each entry is the client's answer to its event (own rule)
abbrev pub AllClientAnswers : ℕ → History → Type 0
AllClientAnswers n (New s first ms) = Unit {0}
AllClientAnswers n (Then h event entry) = AllClientAnswers n h × ClientAnswer n h event entry

-- after each history of answers, a client has at most one answer to an event (own rule)
abbrev pub OneClientAnswer : Type 0
OneClientAnswer = (n : ℕ) (h : History) (event : Event) (x y : Entry) → AllClientAnswers n h → ClientAnswer n h event x → ClientAnswer n h event y → x ≡ y

-- how often the client was restarted (own rule)
abbrev pub restarts : History → ℕ
restarts (New s first ms) = 0
restarts (Then h (Restart first) entry) = restarts h + 1
restarts (Then h event entry) = restarts h

-- the number that the client began with, at the start or at the last restart (RFC 8613, 7.2.1)
abbrev pub first_number : History → ℕ
first_number (New s first ms) = first
first_number (Then h (Restart first) entry) = first
first_number (Then h event entry) = first_number h

-- a request that a client sealed: how many restarts came before it, its number, and its bytes (RFC 8613, 8.1)
pub record SealedRequest : Type 0 where
  pub restarts : ℕ
  pub number : ℕ
  pub bytes : List ℕ

-- the requests that a client sealed, newest first (RFC 8613, 8.1)
abbrev pub sealed : History → List SealedRequest
sealed (New s first ms) = []
sealed (Then h (Request now plain room) (Sent bytes)) = record { restarts = restarts h; number = next h; bytes = bytes } ∷ sealed h
sealed (Then h event entry) = sealed h

-- the requests between restart c and the next one (own rule)
abbrev pub sealed_after : ℕ → List SealedRequest → List SealedRequest
sealed_after c [] = []
sealed_after c (r ∷ rs) = if r.restarts == c then r ∷ sealed_after c rs else sealed_after c rs

-- the number is the request's, and it is the Partial IV in the request's bytes (RFC 8613, 6.1)
pub record HasNumber (s : SecurityContext) (r : SealedRequest) (number : ℕ) : Type 0 where
  pub number_is : r.number ≡ number
  pub outer : Parts
  pub datagram : IsDatagram outer r.bytes
  pub value : List ℕ
  pub single : values_at oscore outer.options ≡ value ∷ []
  pub reads : IsOscoreValue (value_of_request number s.id_context s.client) value

-- the requests have consecutive numbers, from first on (RFC 8613, 7.2.1)
abbrev pub RequestsCountUp : SecurityContext → ℕ → List SealedRequest → Type 0
RequestsCountUp s first [] = Unit {0}
RequestsCountUp s first (r ∷ rs) = HasNumber s r (first + length rs) × RequestsCountUp s first rs

-- the requests have numbers that rise: each is at least first, above those of all earlier requests, and below the limit (RFC 8613, 7.2.1)
abbrev pub RequestsRise : SecurityContext → ℕ → ℕ → List SealedRequest → Type 0
RequestsRise s first limit [] = Unit {0}
RequestsRise s first limit (r ∷ rs) = HasNumber s r r.number × (first ≤ r.number) × (r.number < limit) × RequestsRise s first r.number rs

-- how many numbers were passed over since the start or the last restart, since another end of the same Sender Key has them (RFC 8613, 7.2.1)
abbrev pub passed_over : History → ℕ
passed_over (New s first ms) = 0
passed_over (Then h (Restart first) entry) = 0
passed_over (Then h (Skip count) Skipped) = passed_over h + count
passed_over (Then h event entry) = passed_over h

-- the numbers since the start or the last restart rise, so none is used twice; where none was passed over they are consecutive (RFC 8613, 7.2.1)
pub record RequestNumbersAre (h : History) : Type 0 where
  pub rise : RequestsRise (context h) (first_number h) (next h) (sealed_after (restarts h) (sealed h))
  pub count_up : passed_over h ≡ 0 → RequestsCountUp (context h) (first_number h) (sealed_after (restarts h) (sealed h))

-- this holds after each history of answers (RFC 8613, 7.2.1)
abbrev pub RequestNumbersOnce : Type 0
RequestNumbersOnce = (n : ℕ) (h : History) → AllClientAnswers n h → RequestNumbersAre h

-- two requests with no restart between them have different nonces (RFC 8613, 5.2)
abbrev pub RequestsHaveTwoNonces : SecurityContext → SealedRequest → SealedRequest → Type 0
RequestsHaveTwoNonces s r q = r.restarts ≡ q.restarts → nonce_of s.common_iv s.client r.number ≢ nonce_of s.common_iv s.client q.number

-- no two requests between two restarts share a nonce, if the nonce has room for the client's identifier (RFC 8613, 3.3 and 5.2)
abbrev pub ClientNoncesOnce : Type 0
ClientNoncesOnce = (n : ℕ) (h : History) → length (context h).client ≤ 7 → AllClientAnswers n h → Pairwise (RequestsHaveTwoNonces (context h)) (sealed h)
