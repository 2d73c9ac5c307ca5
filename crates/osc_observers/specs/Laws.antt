-- To be believed: what holds of observers, over every history (RFC 7641, 4.1, 4.2 and 4.5). h is a history, x and y are observers, n is the number of
-- one, m a moment in milliseconds.
use Rattle.std.specs.Prelude.{◌≡◌, ◌⊎◌, ℕ, ◌+◌, ◌≤◌, ◌<◌, false, Some, None, if◌then◌else◌, nat_lt, nat_eq}
use Rattle.std.specs.List.{count_by}
use Rattle.osc_message.specs.Slots.{IsAt, holds}
use Rattle.osc_observers.specs.Table.{History, Ended, Lawful, Noted, Registered, Replaced, Start, Then, ended, table}
use Rattle.osc_observers.specs.Watching.{Watching, needs_con}

-- over every history, each observer that registered is listed or has ended, and never both and never twice; a number that wasn't given is neither
-- (RFC 7641, 4.1)
abbrev pub EndsOnce : Type 0
EndsOnce = (h : History) (n : ℕ) → Lawful h →
    count_by (λ o. holds (λ x. nat_eq x.number n) o) (table h).places + count_by (λ m. nat_eq m n) (ended h) ≡ (if nat_lt n (table h).next_number then 1 else 0)

-- this observer has ended: by an RST, by a CON that failed, since it was forgotten, or since it was replaced (RFC 7641, 3.6, 4.1, 4.2 and 4.5)
abbrev pub HasEnded : History → ℕ → Type 0
HasEnded (Start places) n = ⊥
HasEnded (Then h (Replaced place y number now) after) n = (y.number ≡ n) ⊎ HasEnded h n
HasEnded (Then h (Ended place x why) after) n = (x.number ≡ n) ⊎ HasEnded h n
HasEnded (Then h event after) n = HasEnded h n

-- over every history, an observer that has ended is at no place (RFC 7641, 4.1)
abbrev pub IsGone : Type 0
IsGone = (h : History) (i : ℕ) (x : Watching) → Lawful h → IsAt (table h).places i x → HasEnded h x.number → ⊥

-- no notification was noted for an observer that had ended before (RFC 7641, 3.6 and 4.5)
abbrev pub NotesNoneEnded : History → Type 0
NotesNoneEnded (Start places) = Unit {0}
NotesNoneEnded (Then h (Noted place x message_id call now) after) = NotesNoneEnded h × (HasEnded h x.number → ⊥)
NotesNoneEnded (Then h event after) = NotesNoneEnded h

-- over every history, no notification is noted for an observer that has ended (RFC 7641, 3.6 and 4.5)
abbrev pub NoneNotedAfter : Type 0
NoneNotedAfter = (h : History) → Lawful h → NotesNoneEnded h

-- over every history, an address and a token have one entry at most (RFC 7641, 4.1)
abbrev pub OneEntryEach : Type 0
OneEntryEach = (h : History) (i j : ℕ) (x y : Watching) → Lawful h → IsAt (table h).places i x → IsAt (table h).places j y
    → x.from ≡ y.from → x.token ≡ y.token → i ≡ j

-- the moment of the last registration or notification (RFC 7641, 4.5)
abbrev pub clock : History → ℕ
clock (Start places) = 0
clock (Then h (Registered place number from token now) after) = now
clock (Then h (Replaced place y number now) after) = now
clock (Then h (Noted place x message_id call now) after) = now
clock (Then h (Ended place x why) after) = clock h

-- no moment is before the one before it (own rule)
abbrev pub IsForward : History → Type 0
IsForward (Start places) = Unit {0}
IsForward (Then h event after) = IsForward h × (clock h ≤ clock (Then h event after))

-- each NON was noted only where no CON was needed (RFC 7641, 4.5)
abbrev pub AsksFirst : History → Type 0
AsksFirst (Start places) = Unit {0}
AsksFirst (Then h (Noted place x message_id None now) after) = AsksFirst h × (needs_con now x ≡ false)
AsksFirst (Then h event after) = AsksFirst h

-- this observer registered at this moment, or was sent a CON then (RFC 7641, 4.5)
abbrev pub WasReached : History → ℕ → ℕ → Type 0
WasReached (Start places) n m = ⊥
WasReached (Then h (Registered place number from token now) after) n m = ((number ≡ n) × (now ≡ m)) ⊎ WasReached h n m
WasReached (Then h (Replaced place y number now) after) n m = ((number ≡ n) × (now ≡ m)) ⊎ WasReached h n m
WasReached (Then h (Noted place x message_id (Some call) now) after) n m = ((x.number ≡ n) × (now ≡ m)) ⊎ WasReached h n m
WasReached (Then h event after) n m = WasReached h n m

-- less than 24 hours before each NON its observer registered, or was sent a CON (RFC 7641, 4.5)
abbrev pub FollowsSoon : History → Type 0
FollowsSoon (Start places) = Unit {0}
FollowsSoon (Then h (Noted place x message_id None now) after) = FollowsSoon h × ((m : ℕ) × WasReached h x.number m × (m ≤ now) × (now < m + 86400000))
FollowsSoon (Then h event after) = FollowsSoon h

-- over every history whose moments don't go back, where each NON is noted only while no CON is needed, each follows a registration of its observer or
-- a CON to it by less than 24 hours (RFC 7641, 4.5)
abbrev pub WithinADay : Type 0
WithinADay = (h : History) → Lawful h → IsForward h → AsksFirst h → FollowsSoon h
