-- How the code is seen: the key that a cipher with tables keeps in its 44 words, and the key that a cipher in planes keeps
-- in its round keys. Bit i of plane k is bit k of the byte in lane i.
use Rattle.std.specs.Prelude.{ℕ, List, [], ◌+◌, ◌*◌, ◌/◌, ◌%◌, ◌++◌, slice_index, get_or}
use Rattle.std.specs.Int.{bit_at, to_be_bytes, w32}
use Rattle.osc_aes.specs.SubstitutionBox.{from_bits}
use Rattle.osc_aes.specs.Aes128.{block_of}

-- the key within the 44 words: the bytes of w_0 to w_3, at indices 0, 11, 22 and 33 (how the code is seen)
unfoldable pub key_of_words : List ℕ → List ℕ
key_of_words words =
    to_be_bytes w32 (slice_index words 0) ++ (to_be_bytes w32 (slice_index words 11)
    ++ (to_be_bytes w32 (slice_index words 22) ++ to_be_bytes w32 (slice_index words 33)))

-- the byte in lane i of eight planes (how the code is seen)
abbrev pub lane : List ℕ → ℕ → ℕ
lane planes i = from_bits 8 (λ k. bit_at (slice_index planes k) i)

-- the key within round keys in planes: row r and column c of round key 0 are in lane 8r + 2c (how the code is seen)
unfoldable pub key_of_planes : List (List ℕ) → List ℕ
key_of_planes keys = block_of (λ row column. lane (get_or keys 0 []) (8 * row + 2 * column))

-- the byte in lane i of a round key that four words keep: word j has its bit 2j in the even bits, and its bit 2j + 1 in the odd ones (how the code is seen)
abbrev pub key_lane : List ℕ → ℕ → ℕ
key_lane words i = from_bits 8 (λ k. bit_at (slice_index words (k / 2)) (2 * (i / 2) + k % 2))

-- the key within round keys that four words keep each: row r and column c of round key 0 are in lane 8r + 2c (how the code is seen)
unfoldable pub key_of_narrow : List (List ℕ) → List ℕ
key_of_narrow keys = block_of (λ row column. key_lane (get_or keys 0 []) (8 * row + 2 * column))
