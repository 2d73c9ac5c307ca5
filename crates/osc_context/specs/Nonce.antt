-- To be believed: the nonce (RFC 8613, 5.2). iv is the Common IV, id is the identifier of the end that generated the
-- Partial IV, and n is its number.
use Rattle.std.specs.Prelude.{ℕ, ◌-◌, List, ◌∷◌, ◌++◌, length, map, replicate, slice_index, bit_xor}
use Rattle.std.specs.List.{range_with_len}
use Rattle.osc_context.specs.Algorithm.{nonce_length}
use Rattle.osc_context.specs.PartialIv.{partial_iv_of}

-- bytes, padded on the left with zeros to the width (RFC 8613, 5.2)
abbrev pub padded : ℕ → List ℕ → List ℕ
padded width bytes = replicate (width - length bytes) 0 ++ bytes

-- the identifier's length, the identifier in 7 bytes, the Partial IV in 5 (RFC 8613, 5.2)
abbrev pub nonce_text : List ℕ → ℕ → List ℕ
nonce_text id n = length id ∷ (padded 7 id ++ padded 5 (partial_iv_of n))

-- the nonce: each byte of the Common IV xor the same byte of the text (RFC 8613, 5.2)
unfoldable pub nonce_of : List ℕ → List ℕ → ℕ → List ℕ
nonce_of iv id n = map (λ i. bit_xor (slice_index iv i) (slice_index (nonce_text id n) i)) (range_with_len 0 nonce_length)
