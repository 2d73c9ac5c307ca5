-- To be believed: Message IDs (RFC 7252, 4.4). Moments are in milliseconds; w is a counter, h a history, a what was given: its number and the
-- moment.
use Rattle.std.specs.Prelude.{◌≡◌, ◌≢◌, ◌⊎◌, ℕ, ◌+◌, ◌-◌, ◌%◌, ◌^◌, ◌≤◌, ◌<◌, List, [], ◌∷◌}
use Rattle.std.specs.List.{All}

-- how many were given, and when the present half of the 65,536 was begun (own rule)
pub record Counted : Type 0 where
  pub count : ℕ
  pub entered : ℕ

-- the next one is given: a half begins at least EXCHANGE_LIFETIME after the half before it (RFC 7252, 4.4 and 4.8.2; own rule: by halves)
pub record Gives (old new : Counted) (now id : ℕ) : Type 0 where
  pub id_is : id ≡ old.count % 65536
  pub count_is : new.count ≡ old.count + 1
  pub half : ((old.count % 32768 ≡ 0) × (247000 ≤ now - old.entered) × (new.entered ≡ now)) ⊎ ((old.count % 32768 ≢ 0) × (new.entered ≡ old.entered))

-- this Message ID is the next: it would be given at this moment, and the counter goes on (RFC 7252, 4.4; own rule: 64 bits)
abbrev pub IsNext : Counted → ℕ → ℕ → Type 0
IsNext w now id = (new : Counted) × Gives w new now id × (new.count < 2 ^ 64)

-- none is given: the next half can't begin yet, or all are counted (own rule)
pub record Waits (old new : Counted) (now : ℕ) : Type 0 where
  pub same : new ≡ old
  pub why : ((old.count % 32768 ≡ 0) × (now - old.entered < 247000)) ⊎ (old.count ≡ 2 ^ 64 - 1)

-- an endpoint begins at a moment, and then Message IDs are given at moments (RFC 7252, 4.4)
pub data History : Type 0 where
  Start : (first now : ℕ) → History
  Then : (before : History) (now id : ℕ) (after : Counted) → History

-- the counter after a history (RFC 7252, 4.4)
abbrev pub counted : History → Counted
counted (Start first now) = record { count = first + 1; entered = now }
counted (Then h now id after) = after

-- the moment of the last event (RFC 7252, 4.4)
abbrev pub clock : History → ℕ
clock (Start first now) = now
clock (Then h now id after) = now

-- what was given, newest first: the number, whose remainder is the Message ID, and the moment (RFC 7252, 4.4)
abbrev pub given : History → List (ℕ × ℕ)
given (Start first now) = []
given (Then h now id after) = ((counted h).count, now) ∷ given h

-- moments don't go back, and each Message ID is given by the rule (RFC 7252, 4.4)
abbrev pub Lawful : History → Type 0
Lawful (Start first now) = Unit {0}
Lawful (Then h now id after) = Lawful h × (clock h ≤ now) × Gives (counted h) after now id

-- over every history, a Message ID that was given before was given at least EXCHANGE_LIFETIME, 247 s, ago (RFC 7252, 4.4)
abbrev pub AreApart : Type 0
AreApart = (h : History) (now id : ℕ) (after : Counted) → Lawful (Then h now id after)
    → All (λ a. a.0 % 65536 ≡ id → a.1 + 247000 ≤ now) (given h)
