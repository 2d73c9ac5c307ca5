-- To be believed: a client whose numbers are kept (RFC 8613, 7.2.1 and B.1.1): each call is zero or one draw and then one event of a client. h is a
-- history, N is how many pending requests there is room for, room the length of the buffer, old and new are the numbers before and after.
use Rattle.std.specs.Prelude.{◌≡◌, ℕ, List, Bool, true, false, Option, Some, None}
use Rattle.osc_client.specs.declared.client.Client.{Client}
use Rattle.osc_client.specs.declared.client_outcome.ClientOutcome.{ClientOutcome}
use Rattle.osc_client.specs.declared.decision.ClientDecision.{ClientDecision}
use Rattle.osc_client.specs.Agrees.{ClientAgrees}
use Rattle.osc_client.specs.ClientAnswer.{ClientAnswer}
use Rattle.osc_client.specs.ClientDeciding.{Decides}
use Rattle.osc_client.specs.ClientHistory.{History, Then, Event, Entry, Answer, Request, Datagram, Sent, Took, next}
use Rattle.osc_client.specs.Views.{ClientShows}
use Rattle.osc_kept_ends.specs.Numbering.{Own, Steps, upcoming}

-- whether a number is drawn before an event: each request needs one (RFC 8613, 8.1)
abbrev pub draws : Event → Bool
draws (Request now plain room) = true
draws event = false

-- the number that an event used, if it used one (RFC 8613, 7.2.1)
abbrev pub uses : History → Event → Entry → Option ℕ
uses h (Request now plain room) (Sent bytes) = Some (next h)
uses h event entry = None

-- the client is as its history says, and seals next with this number (RFC 8613, 7.2.1)
pub record IsKept {N : ℕ} (c : Client N) (number : ℕ) (h : History) : Type 0 where
  pub agrees : ClientAgrees c h
  pub next_is : next h ≡ number

-- this is how the client answers the event; if it seals, it uses the number in hand, which was drawn before (RFC 8613, 8.1 and B.1.1)
pub record KeptStep {N : ℕ} (h : History) (event : Event) (entry : Entry) (old new : Own) (c : Client N) : Type 0 where
  pub row : ClientAnswer N h event entry
  pub kept : IsKept c (upcoming new) (Then h event entry)
  pub numbers : Steps (draws event) (uses h event entry) old new

-- what was decided about a datagram; no number is drawn or used for it (RFC 8613, 8.4)
pub record KeptDecides {N : ℕ} (h : History) (now : ℕ) (d : List ℕ) (result : ClientDecision) (left : List ℕ) (own : Own) (c : Client N) : Type 0 where
  pub answer : Answer
  pub decides : Decides result left answer
  pub step : KeptStep h (Datagram now d) (Took answer) own own c

-- what became of a datagram (RFC 8613, 8.4)
pub record KeptTakes {N : ℕ} (h : History) (now : ℕ) (d : List ℕ) (outcome : ClientOutcome) (own : Own) (c : Client N) : Type 0 where
  pub answer : Answer
  pub shows : ClientShows outcome answer
  pub step : KeptStep h (Datagram now d) (Took answer) own own c
