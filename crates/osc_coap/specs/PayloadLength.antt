-- For the proofs: how long a payload is with its marker.
use Rattle.std.specs.Prelude.{ℕ, ◌+◌, ◌==◌, if◌then◌else◌}

-- no bytes for no payload, otherwise n bytes and one for the marker (RFC 7252, 3)
abbrev pub marked_length : ℕ → ℕ
marked_length n = if n == 0 then 0 else 1 + n
