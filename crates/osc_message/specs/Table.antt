-- To be believed: the confirmable messages of an endpoint, each at a place, and what may happen to them (RFC 7252, 4.2 and 4.7). t is a table, h
-- a history, x a message, n the number of a call.
use Rattle.std.specs.Prelude.{◌≡◌, ℕ, ◌+◌, List, [], ◌∷◌, true, false, Option, Some, None, slice_get, replicate}
use Rattle.osc_message.specs.Slots.{Puts}
use Rattle.osc_message.specs.Sending.{Sending, again, step, stopped}
use Rattle.osc_message.specs.declared.exchange.Step.TheVariants.{Rest, Resend, GiveUp}

-- what is at each place, and the number of the next call (RFC 7252, 4.2)
pub record Table : Type 0 where
  pub places : List (Option Sending)
  pub next_call : ℕ

-- no message to this address is without its ACK (RFC 7252, 4.7)
abbrev pub IsIdle : Table → List ℕ → Type 0
IsIdle t to = (i : ℕ) (x : Sending) → slice_get t.places i ≡ Some (Some x) → x.to ≡ to → x.acked ≡ true

-- a message is sent first: it gets a free place and the next number, and its address has no other one that is without its ACK
-- (RFC 7252, 4.2 and 4.7: NSTART is 1)
pub record Begins (old new : Table) (place : ℕ) (x : Sending) : Type 0 where
  pub puts : Puts old.places new.places place None (Some x)
  pub number : x.call ≡ old.next_call
  pub next : new.next_call ≡ old.next_call + 1
  pub idle : IsIdle old x.to
  pub first : x.last ≡ x.begun
  pub unsent : x.resent ≡ 0
  pub unacked : x.acked ≡ false

-- a message stays at its place, changed (RFC 7252, 4.2)
pub record Moves (old new : Table) (place : ℕ) (x y : Sending) : Type 0 where
  pub puts : Puts old.places new.places place (Some x) (Some y)
  pub next : new.next_call ≡ old.next_call

-- a message leaves its place, which is free then (RFC 7252, 4.2)
pub record Ends (old new : Table) (place : ℕ) (x : Sending) : Type 0 where
  pub puts : Puts old.places new.places place (Some x) None
  pub next : new.next_call ≡ old.next_call

-- why a message leaves: what it awaited came, or an RST, it was given up at a moment, or its caller forgot it (RFC 7252, 4.2)
pub data Why : Type 0 where
  Answered : Why
  Reset : Why
  GivenUp : (now : ℕ) → Why
  Forgotten : Why

-- what happens to the messages of a table (RFC 7252, 4.2)
pub data Event : Type 0 where
  Begun : (place : ℕ) (x : Sending) → Event
  Stopped : (place : ℕ) (x : Sending) → Event
  Resent : (place : ℕ) (x : Sending) (now : ℕ) → Event
  Ended : (place : ℕ) (x : Sending) (why : Why) → Event

-- a table with so many places, and what happened to its messages (RFC 7252, 4.2)
pub data History : Type 0 where
  Start : (places : ℕ) → History
  Then : (before : History) (event : Event) (after : Table) → History

-- the table after a history (RFC 7252, 4.2)
abbrev pub table : History → Table
table (Start places) = record { places = replicate places None; next_call = 0 }
table (Then h event after) = after

-- a message may leave so: it is given up only when its time is over (RFC 7252, 4.2)
abbrev pub MayEnd : Sending → Why → Type 0
MayEnd x (GivenUp now) = step x now ≡ GiveUp
MayEnd x why = Unit {0}

-- the step from one table to the next: what is sent again is sent again when its wait is over (RFC 7252, 4.2)
abbrev pub Steps : Table → Event → Table → Type 0
Steps old (Begun place x) new = Begins old new place x
Steps old (Stopped place x) new = Moves old new place x (stopped x)
Steps old (Resent place x now) new = Moves old new place x (again x now) × (step x now ≡ Resend)
Steps old (Ended place x why) new = Ends old new place x × MayEnd x why

-- each step is one of these (RFC 7252, 4.2)
abbrev pub Lawful : History → Type 0
Lawful (Start places) = Unit {0}
Lawful (Then h event after) = Lawful h × Steps (table h) event after

-- the numbers of the calls that ended, newest first (RFC 7252, 4.2)
abbrev pub ended : History → List ℕ
ended (Start places) = []
ended (Then h (Ended place x why) after) = x.call ∷ ended h
ended (Then h event after) = ended h

-- nothing is to be done about any message now (RFC 7252, 4.2)
abbrev pub Rests : List (Option Sending) → ℕ → Type 0
Rests places now = (i : ℕ) (x : Sending) → slice_get places i ≡ Some (Some x) → step x now ≡ Rest
