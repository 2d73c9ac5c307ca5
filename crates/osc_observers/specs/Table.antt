-- To be believed: the observers of a resource, each at a place, and what may happen to them (RFC 7641, 4.1, 4.2 and 4.5). t is a table, h a history,
-- x and y are observers, n is the number of one.
use Rattle.std.specs.Prelude.{◌≡◌, ℕ, ◌+◌, List, [], ◌∷◌, true, Option, Some, None, replicate}
use Rattle.osc_message.specs.Slots.{NonePasses, Puts}
use Rattle.osc_observers.specs.Watching.{Watching, fresh, is_failed, is_of, is_reset, noted}

-- what is at each place, and the number of the next observer (RFC 7641, 4.1)
pub record Table : Type 0 where
  pub places : List (Option Watching)
  pub next_number : ℕ

-- an observer gets the next number, and a place that had nothing, or another observer (RFC 7641, 4.1)
pub record Enters (old new : Table) (place : ℕ) (before : Option Watching) (x : Watching) : Type 0 where
  pub puts : Puts old.places new.places place before (Some x)
  pub number : x.number ≡ old.next_number
  pub next : new.next_number ≡ old.next_number + 1

-- an observer stays at its place, changed (RFC 7641, 4.2)
pub record Stays (old new : Table) (place : ℕ) (x y : Watching) : Type 0 where
  pub puts : Puts old.places new.places place (Some x) (Some y)
  pub next : new.next_number ≡ old.next_number

-- an observer leaves its place, which is free then (RFC 7641, 4.1)
pub record Ends (old new : Table) (place : ℕ) (x : Watching) : Type 0 where
  pub puts : Puts old.places new.places place (Some x) None
  pub next : new.next_number ≡ old.next_number

-- why an observer leaves: an RST with this Message ID came from this address, the CON of this call wasn't acknowledged, or its caller forgot it
-- (RFC 7641, 3.6, 4.2 and 4.5)
pub data Why : Type 0 where
  Reset : (from : List ℕ) (message_id : ℕ) → Why
  Failed : (call : ℕ) → Why
  Forgotten : Why

-- what happens to the observers of a table: one registers, or registers again and is replaced, a notification is sent to it, or it leaves
-- (RFC 7641, 4.1, 4.2 and 4.5)
pub data Event : Type 0 where
  Registered : (place number : ℕ) (from token : List ℕ) (now : ℕ) → Event
  Replaced : (place : ℕ) (y : Watching) (number now : ℕ) → Event
  Noted : (place : ℕ) (x : Watching) (message_id : ℕ) (call : Option ℕ) (now : ℕ) → Event
  Ended : (place : ℕ) (x : Watching) (why : Why) → Event

-- a table with so many places, and what happened to its observers (RFC 7641, 4.1)
pub data History : Type 0 where
  Start : (places : ℕ) → History
  Then : (before : History) (event : Event) (after : Table) → History

-- the table after a history (RFC 7641, 4.1)
abbrev pub table : History → Table
table (Start places) = record { places = replicate places None; next_number = 0 }
table (Then h event after) = after

-- an observer may leave so: by an RST for its last notification, or by the failure of its last CON (RFC 7641, 3.6 and 4.5)
abbrev pub MayEnd : Watching → Why → Type 0
MayEnd x (Reset from message_id) = is_reset from message_id x ≡ true
MayEnd x (Failed call) = is_failed call x ≡ true
MayEnd x Forgotten = Unit {0}

-- the step from one table to the next: who registers again under the same address and token takes the place that it had (RFC 7641, 4.1)
abbrev pub Steps : Table → Event → Table → Type 0
Steps old (Registered place number from token now) new = Enters old new place None (fresh number from token now) × NonePasses (is_of from token) old.places
Steps old (Replaced place y number now) new = Enters old new place (Some y) (fresh number y.from y.token now)
Steps old (Noted place x message_id call now) new = Stays old new place x (noted x message_id call now)
Steps old (Ended place x why) new = Ends old new place x × MayEnd x why

-- each step is one of these (RFC 7641, 4.1)
abbrev pub Lawful : History → Type 0
Lawful (Start places) = Unit {0}
Lawful (Then h event after) = Lawful h × Steps (table h) event after

-- the numbers of the observers that ended, newest first: they left, or were replaced (RFC 7641, 4.1)
abbrev pub ended : History → List ℕ
ended (Start places) = []
ended (Then h (Replaced place y number now) after) = y.number ∷ ended h
ended (Then h (Ended place x why) after) = x.number ∷ ended h
ended (Then h event after) = ended h
