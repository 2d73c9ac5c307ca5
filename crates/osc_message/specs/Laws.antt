-- To be believed: what holds of confirmable messages, over every list of moments and over every history (RFC 7252, 4.2, 4.7 and 4.8.2). x is a
-- message, h a history, n the number of a call.
use Rattle.std.specs.Prelude.{◌≡◌, ◌⊎◌, ℕ, ◌+◌, ◌-◌, ◌*◌, ◌≤◌, ◌<◌, List, [], ◌∷◌, true, false, Option, Some, if◌then◌else◌, length, nat_lt, nat_eq, slice_get}
use Rattle.std.specs.List.{count_by}
use Rattle.osc_message.specs.Slots.{holds}
use Rattle.osc_message.specs.Sending.{Sending, is_given_up, resends}
use Rattle.osc_message.specs.Table.{History, Lawful, Rests, ended, table}

-- each moment is at least the wait after the one before it, and the wait doubles (RFC 7252, 4.2)
abbrev pub AreSpaced : ℕ → ℕ → List ℕ → Type 0
AreSpaced last wait [] = Unit {0}
AreSpaced last wait (m ∷ ms) = (wait ≤ m - last) × AreSpaced m (2 * wait) ms

-- one of the moments is at least this one (RFC 7252, 4.2)
abbrev pub Reaches : ℕ → List ℕ → Type 0
Reaches moment [] = ⊥
Reaches moment (m ∷ ms) = (moment ≤ m) ⊎ Reaches moment ms

-- a message as it is when it was just sent first (RFC 7252, 4.2)
pub record IsFirst (x : Sending) : Type 0 where
  pub last : x.last ≡ x.begun
  pub resent : x.resent ≡ 0
  pub acked : x.acked ≡ false

-- a message is sent again at most MAX_RETRANSMIT (4) times, whatever the moments (RFC 7252, 4.2)
abbrev pub AtMostFour : Type 0
AtMostFour = (x : Sending) (moments : List ℕ) → IsFirst x → length (resends x moments) ≤ 4

-- each time at least the wait after the time before it, and the wait doubles (RFC 7252, 4.2)
abbrev pub AtItsTimes : Type 0
AtItsTimes = (x : Sending) (moments : List ℕ) → IsFirst x → AreSpaced x.begun x.first_wait (resends x moments)

-- asked about each time its wait is over, it is sent again after 1, 3, 7 and 15 first waits, and given up after 31 (RFC 7252, 4.2 and 4.8.2)
abbrev pub Punctually : Type 0
Punctually = (x : Sending) → IsFirst x → x.first_wait ≤ 3000 → 1 ≤ x.first_wait →
    let b = x.begun in
    let w = x.first_wait in
    let times = (b + w) ∷ (b + 3 * w) ∷ (b + 7 * w) ∷ (b + 15 * w) ∷ [] in
    (resends x ((b + w) ∷ (b + 3 * w) ∷ (b + 7 * w) ∷ (b + 15 * w) ∷ (b + 31 * w) ∷ []) ≡ times)
    × (is_given_up x ((b + w) ∷ (b + 3 * w) ∷ (b + 7 * w) ∷ (b + 15 * w) ∷ (b + 31 * w) ∷ []) ≡ true)

-- asked about MAX_TRANSMIT_WAIT after it was first sent, or later, it is given up (RFC 7252, 4.8.2)
abbrev pub IsGivenUpInTime : Type 0
IsGivenUpInTime = (x : Sending) (moments : List ℕ) → Reaches (x.begun + 93000) moments → is_given_up x moments ≡ true

-- one for which an ACK came isn't sent again (RFC 7252, 4.2)
abbrev pub AckedRests : Type 0
AckedRests = (x : Sending) (moments : List ℕ) → x.acked ≡ true → resends x moments ≡ []

-- over every history, each call that was made is on its way or has ended, and never both and never twice; one that wasn't made is neither
-- (RFC 7252, 4.2)
abbrev pub EndsOnce : Type 0
EndsOnce = (h : History) (n : ℕ) → Lawful h →
    count_by (λ o. holds (λ x. nat_eq x.call n) o) (table h).places + count_by (λ m. nat_eq m n) (ended h) ≡ (if nat_lt n (table h).next_call then 1 else 0)

-- where nothing is to be done, no message is MAX_TRANSMIT_WAIT old (RFC 7252, 4.8.2)
abbrev pub RestIsYoung : Type 0
RestIsYoung = (places : List (Option Sending)) (now i : ℕ) (x : Sending) → Rests places now → slice_get places i ≡ Some (Some x) → now - x.begun < 93000

-- over every history, no message was sent again more than MAX_RETRANSMIT (4) times (RFC 7252, 4.2)
abbrev pub AtMostFourEach : Type 0
AtMostFourEach = (h : History) (i : ℕ) (x : Sending) → Lawful h → slice_get (table h).places i ≡ Some (Some x) → x.resent ≤ 4

-- over every history, at most one message to an address is without its ACK (RFC 7252, 4.7: NSTART is 1)
abbrev pub OneToAPeer : Type 0
OneToAPeer = (h : History) (i j : ℕ) (x y : Sending) → Lawful h
    → slice_get (table h).places i ≡ Some (Some x) → slice_get (table h).places j ≡ Some (Some y)
    → x.acked ≡ false → y.acked ≡ false → x.to ≡ y.to → i ≡ j
