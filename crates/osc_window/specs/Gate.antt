-- To be believed: how long a challenge is in force (RFC 9175, 2.3). Moments are numbers of milliseconds; issued is the
-- moment at which the value was issued, and clock is the present moment. Numbers have no bound, and a difference below
-- 0 is 0.
use Rattle.std.specs.Prelude.{ℕ, ◌-◌, ◌≤◌, List, Option, Some, None, nat_le, if◌then◌else◌}

-- the clock is at most 30,000 ms past the moment of issue; a clock before that moment counts as 0 past it (own rule)
abbrev pub IsInForce : ℕ → ℕ → Type 0
IsInForce issued clock = clock - issued ≤ 30000

-- the challenge (its value and its moment of issue) while it is in force, otherwise none (own rule)
abbrev pub challenge_in_force : Option (List ℕ × ℕ) → ℕ → Option (List ℕ × ℕ)
challenge_in_force None clock = None
challenge_in_force (Some challenge) clock = if nat_le (clock - challenge.1) 30000 then Some challenge else None
