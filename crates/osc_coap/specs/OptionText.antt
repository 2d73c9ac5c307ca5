-- For the proofs: how private functions write one option, and bytes at a place (RFC 7252, 3.1). n is a delta
-- or a length.
use Rattle.std.specs.Prelude.{ℕ, ◌+◌, ◌-◌, ◌*◌, ◌/◌, ◌%◌, nat_lt, if◌then◌else◌, List, [], ◌∷◌, ◌++◌, length, take, drop}

-- old with this text written at a place, over the same number of bytes (how the code is seen)
abbrev pub placed : ℕ → List ℕ → List ℕ → List ℕ
placed place text old = take place old ++ (text ++ drop (place + length text) old)

-- the nibble that stands for n (RFC 7252, 3.1)
abbrev pub nibble : ℕ → ℕ
nibble n = if nat_lt n 13 then n else (if nat_lt n 269 then 13 else 14)

-- the extended bytes that the nibble for n calls for (RFC 7252, 3.1)
abbrev pub extended : ℕ → List ℕ
extended n = if nat_lt n 13 then [] else (if nat_lt n 269 then (n - 13) ∷ [] else ((n - 269) / 256) ∷ ((n - 269) % 256) ∷ [])

-- what comes before a value: option byte, extended delta, extended length (RFC 7252, 3.1)
abbrev pub option_front : ℕ → ℕ → List ℕ
option_front delta value_length = (16 * nibble delta + nibble value_length) ∷ (extended delta ++ extended value_length)

-- an option with this delta and value (RFC 7252, 3.1)
abbrev pub option_text : ℕ → List ℕ → List ℕ
option_text delta value = option_front delta (length value) ++ value
