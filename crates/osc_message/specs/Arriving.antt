-- To be believed: the messages that came to an endpoint, each at a place, and what may happen to them (RFC 7252, 4.5 and 5.2). t is a table, h a
-- history, x a message, n its number.
use Rattle.std.specs.Prelude.{◌≡◌, ◌⊎◌, ℕ, ◌+◌, List, [], ◌∷◌, true, false, Option, Some, None, replicate}
use Rattle.osc_message.specs.Hearing.{Heard, acknowledged, answered, is_done, is_due}
use Rattle.osc_message.specs.declared.arrival.Stage.TheVariants.{Waiting, Done}
use Rattle.osc_message.specs.Slots.{Puts}

-- what is at each place, and the number of the next message (RFC 7252, 4.5 and 5.2)
pub record Came : Type 0 where
  pub places : List (Option Heard)
  pub next_number : ℕ

-- a place can be used anew: it is free, or all was sent for its message (own rule)
abbrev pub IsUnused : Option Heard → Type 0
IsUnused None = Unit {0}
IsUnused (Some x) = is_done x ≡ true

-- a message comes: it gets the next number and a place that can be used anew, and waits for its answer, or its ACK is all that is sent
-- (RFC 7252, 4.2 and 5.2)
pub record Notes (old new : Came) (place : ℕ) (before : Option Heard) (x : Heard) : Type 0 where
  pub puts : Puts old.places new.places place before (Some x)
  pub unused : IsUnused before
  pub number : x.number ≡ old.next_number
  pub next : new.next_number ≡ old.next_number + 1
  pub stage : (x.stage ≡ Waiting) ⊎ (x.stage ≡ Done)

-- a message stays at its place, changed (RFC 7252, 4.5 and 5.2)
pub record Stays (old new : Came) (place : ℕ) (x y : Heard) : Type 0 where
  pub puts : Puts old.places new.places place (Some x) (Some y)
  pub next : new.next_number ≡ old.next_number

-- what happens to the messages of a table (RFC 7252, 4.5 and 5.2)
pub data Event : Type 0 where
  Noted : (place : ℕ) (before : Option Heard) (x : Heard) → Event
  Acked : (place : ℕ) (x : Heard) (now : ℕ) → Event
  Replied : (place : ℕ) (x : Heard) → Event

-- a table with so many places, and what happened to its messages (RFC 7252, 4.5 and 5.2)
pub data History : Type 0 where
  Start : (places : ℕ) → History
  Then : (before : History) (event : Event) (after : Came) → History

-- the table after a history (RFC 7252, 4.5 and 5.2)
abbrev pub arrived : History → Came
arrived (Start places) = record { places = replicate places None; next_number = 0 }
arrived (Then h event after) = after

-- the step from one table to the next: an ACK goes out by itself when it is due, and an answer where one is still to come (RFC 7252, 5.2)
abbrev pub Steps : Came → Event → Came → Type 0
Steps old (Noted place before x) new = Notes old new place before x
Steps old (Acked place x now) new = Stays old new place x (acknowledged x) × (is_due now x ≡ true)
Steps old (Replied place x) new = Stays old new place x (answered x) × (is_done x ≡ false)

-- each step is one of these (RFC 7252, 4.5 and 5.2)
abbrev pub Lawful : History → Type 0
Lawful (Start places) = Unit {0}
Lawful (Then h event after) = Lawful h × Steps (arrived h) event after

-- the numbers of the messages that were answered, newest first (RFC 7252, 4.5 and 5.2)
abbrev pub replies : History → List ℕ
replies (Start places) = []
replies (Then h (Replied place x) after) = x.number ∷ replies h
replies (Then h event after) = replies h

-- the numbers of the messages whose ACK went out by itself, newest first (RFC 7252, 4.5 and 5.2)
abbrev pub late_acks : History → List ℕ
late_acks (Start places) = []
late_acks (Then h (Acked place x now) after) = x.number ∷ late_acks h
late_acks (Then h event after) = late_acks h
