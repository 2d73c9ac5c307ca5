-- To be believed: an Echo value that is made of a Sender Sequence Number (RFC 9175, A, method 3; RFC 8613, B.1.1).
use Rattle.std.specs.Prelude.{ℕ, List}
use Rattle.std.specs.Int.{to_be_bytes, w64}

-- the value that a number makes: the number in eight bytes, high byte first (RFC 9175, A, method 3; own rule: the length)
abbrev pub echo_of : ℕ → List ℕ
echo_of number = to_be_bytes w64 number
