-- To be believed: what an end reads of an option that it interprets (RFC 7252, 5.4.3 and 5.4.5). n is the number of the option, value a value,
-- entries are options in order.
use Rattle.std.specs.Prelude.{ℕ, ◌==◌, ◌||◌, ◌&&◌, Bool, true, List, length, Option, Some, None, nat_le, if◌then◌else◌}
use Rattle.std.specs.Option.{option_and_then}
use Rattle.osc_coap.specs.OptionNumbers.{block1, block2, echo, observe}
use Rattle.osc_coap.specs.OptionSpelling.{Entry}
use Rattle.osc_coap.specs.Search.{first_of, values_at}

-- an option with this number may have a value of this length: Observe, Block2 and Block1 at most 3 bytes, Echo 1 to 40, any other one any (RFC 7641, 2; RFC 7959, 2.1; RFC 9175, 2.2.1)
abbrev pub is_valid_length : ℕ → ℕ → Bool
is_valid_length n len = if (n == observe) || (n == block2) || (n == block1) then nat_le len 3 else (if n == echo then nat_le 1 len && nat_le len 40 else true)

-- what is interpreted: the value of the first option with this number, if its length is valid; the further ones, and one that isn't valid, are as if unknown (RFC 7252, 5.4.3 and 5.4.5)
abbrev pub interpreted : ℕ → List Entry → Option (List ℕ)
interpreted n entries = option_and_then (λ value. if is_valid_length n (length value) then Some value else None) (first_of (values_at n entries))
