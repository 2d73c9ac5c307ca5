-- To be believed: numbers that are reserved in steps of 64 before they are given out (RFC 8613, B.1.1). next is the next number, limit is
-- the first number that isn't reserved, and floor is the keeper's floor.
use Rattle.std.specs.Prelude.{◌≡◌, ℕ, ◌+◌, ◌<◌, ◌≤◌, ◌^◌, List, min, codes}
use Rattle.osc_context.specs.declared.numbers.NumbersError.{NumbersError}
use Rattle.osc_context.specs.declared.numbers.NumbersError.TheVariants.{KeeperFailed, KeptTooLarge, NumbersExhausted}

-- the limit of the next reservation: up to 64 more numbers, all below 2 ^ 40 (RFC 8613, B.1.1; own rule: 64)
abbrev pub next_limit : ℕ → ℕ
next_limit limit = min (limit + 64) (2 ^ 40)

-- the floor is at most the limit, and is the limit if a reserved number is left: no number that is given out can be loaded again (RFC 8613, B.1.1)
pub record Covers (floor next limit : ℕ) : Type 0 where
  pub most : floor ≤ limit
  pub whole : next < limit → floor ≡ limit

-- the name of a refusal (own rule)
abbrev pub numbers_error_text : NumbersError → List ℕ
numbers_error_text KeeperFailed = codes "KeeperFailed"
numbers_error_text KeptTooLarge = codes "KeptTooLarge"
numbers_error_text NumbersExhausted = codes "NumbersExhausted"
