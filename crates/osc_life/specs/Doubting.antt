-- To be believed: numbers of requests that earlier lives of a server kept ahead of those that they received (RFC 8613, 7.5 and B.1.2). doubt has the numbers that
-- may have been received, n is the number of a request, carried says that the request carries the Echo value in force.
use Rattle.std.specs.Prelude.{◌⊎◌, ℕ, ◌≤◌, ◌<◌, Option, Some, None}
use Rattle.osc_life.specs.declared.doubt.Doubt.{Doubt}

-- the number is below all that are in doubt, so it is one that was received, or an older one (own rule)
abbrev pub IsBelow : Option Doubt → ℕ → Type 0
IsBelow None n = ⊥
IsBelow (Some doubt) n = n < doubt.least

-- it isn't below them (own rule)
abbrev pub IsNotBelow : Option Doubt → ℕ → Type 0
IsNotBelow None n = Unit {0}
IsNotBelow (Some doubt) n = doubt.least ≤ n

-- the number is above all that are in doubt, so no earlier life received it (own rule)
abbrev pub IsBeyond : Option Doubt → ℕ → Type 0
IsBeyond None n = ⊥
IsBeyond (Some doubt) n = doubt.limit ≤ n

-- it isn't above them (own rule)
abbrev pub IsNotBeyond : Option Doubt → ℕ → Type 0
IsNotBeyond None n = Unit {0}
IsNotBeyond (Some doubt) n = n < doubt.limit

-- what opens a closed life: the Echo value, or a number above all that are in doubt, if there are any (RFC 8613, B.1.2; own rule: the number)
abbrev pub OpensBy : Option Doubt → ℕ → Type 0 → Type 0
OpensBy None n carried = carried
OpensBy (Some doubt) n carried = (doubt.limit ≤ n) ⊎ carried

-- what leaves it closed: neither (RFC 8613, B.1.2; own rule: the number)
abbrev pub StaysBy : Option Doubt → ℕ → Type 0 → Type 0
StaysBy None n carried = carried → ⊥
StaysBy (Some doubt) n carried = (n < doubt.limit) × (carried → ⊥)
