-- To be believed: how the bytes of an end hold its numbers (RFC 8613, 7.2.1 and B.1.1). o are the numbers, next is the number with which the end seals next,
-- reserved the first number that isn't reserved.
use Rattle.std.specs.Prelude.{◌≡◌, ◌⊎◌, ℕ, ◌+◌, ◌<◌, ◌≤◌, ◌^◌, Bool, true, Some}
use Rattle.osc_context.specs.Reserving.{Covers}
use Rattle.osc_kept_ends.specs.Numbering.{Own, upcoming}

-- the numbers below this one are reserved; the number in hand, if there is one, was drawn last; and each number that is still to be used is below what was
-- saved (RFC 8613, B.1.1)
pub record AreReserved (o : Own) (reserved : ℕ) : Type 0 where
  pub limit_is : o.limit ≡ reserved
  pub within : o.next ≤ o.limit
  pub last : (n : ℕ) → o.hand ≡ Some n → n + 1 ≡ o.next
  pub covered : Covers o.floor (upcoming o) o.limit

-- a save has to come first: no number is reserved, but there are more, and either one is asked for or none was saved yet (RFC 8613, B.1.1 and B.1.2)
abbrev pub WantsSave : Bool → ℕ → ℕ → Type 0
WantsSave asked next reserved = (next ≡ reserved) × (reserved < 2 ^ 40) × ((asked ≡ true) ⊎ (reserved ≡ 0))
