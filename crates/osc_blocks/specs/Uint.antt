-- To be believed: the value of an option that is a number (RFC 7252, 3.2): bytes, the high one first, with leading zero bytes
-- or without. n is the number.
use Rattle.std.specs.Prelude.{◌≡◌, ℕ, ◌<◌, List}
use Rattle.std.specs.List.{All}
use Rattle.osc_context.specs.PartialIv.{spelled_number}

-- bytes that spell the number, however many (RFC 7252, 3.2)
pub record SpellsNumber (bytes : List ℕ) (n : ℕ) : Type 0 where
  pub small : All (λ b. b < 256) bytes
  pub number : spelled_number bytes ≡ n
