-- To be believed: HMAC-SHA-256 (RFC 2104, section 2, with SHA-256 as H and blocks of 64 bytes). key and m are lists of
-- bytes.
use Rattle.std.specs.Prelude.{ℕ, nat_lt, List, ◌++◌, length, map, slice_index, bit_xor, if◌then◌else◌}
use Rattle.std.specs.List.{range_with_len}
use Rattle.sha2.specs.Sha256.{sha256}

-- a key of at most one block: a longer key is hashed first (RFC 2104, 2)
abbrev pub short_key : List ℕ → List ℕ
short_key key = if nat_lt 64 (length key) then sha256 key else key

-- a short key padded with zeros to one block, with each byte added to the pad (RFC 2104, 2)
abbrev pub padded_key : List ℕ → ℕ → List ℕ
padded_key short pad = map (λ i. bit_xor (slice_index short i) pad) (range_with_len 0 64)

-- the code of a message: H(outer key, H(inner key, message)) (RFC 2104, 2)
unfoldable pub hmac : List ℕ → List ℕ → List ℕ
hmac key m = sha256 (padded_key (short_key key) 0x5c ++ sha256 (padded_key (short_key key) 0x36 ++ m))
