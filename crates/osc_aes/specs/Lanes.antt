-- For the proofs: the state of FIPS 197 on planes of bits. planes are 8 words of 32 bits; their lane i is a byte. keys are
-- eleven round keys in planes. r counts rows or round keys, c columns, b blocks, n rounds and i lanes. w is an expanded key.
use Rattle.std.specs.Prelude.{◌≡◌, ◌<◌, ℕ, ◌+◌, ◌*◌, ◌/◌, ◌%◌, ◌^◌, List, [], ◌∷◌, ◌++◌, slice_index, get_or, take, drop, bit_and, bit_xor}
use Rattle.osc_aes.specs.Aes128.{State, block_of}
use Rattle.osc_aes.specs.Views.{key_lane, lane}

-- the lane of row r and column c of block b after n rounds, when row r is rotated right by n times r columns (own rule)
abbrev pub lane_of : ℕ → ℕ → ℕ → ℕ → ℕ
lane_of n b row column = 8 * row + (2 * ((column + n * row) % 4) + b)

-- the state of block b in planes after n rounds (FIPS 197, 3.4)
abbrev pub state_in : ℕ → List ℕ → ℕ → State
state_in n planes b row column = lane planes (lane_of n b row column)

-- the bytes of block b in planes after n rounds (FIPS 197, 3.4)
abbrev pub block_in : ℕ → List ℕ → ℕ → List ℕ
block_in n planes b = block_of (state_in n planes b)

-- the lane below lane i in a column of the state, when each row is rotated by j more than the row above (FIPS 197, 5.1.3)
abbrev pub below : ℕ → ℕ → ℕ
below j i = 8 * ((i / 8 + 1) % 4) + (2 * ((i / 2 % 4 + j) % 4) + i % 2)

-- block r of a list of blocks of 16 bytes, one after the other (own rule)
abbrev pub block_at : List ℕ → ℕ → List ℕ
block_at bytes r = take 16 (drop (16 * r) bytes)

-- planes hold round key r of an expanded key for both blocks, rotated like the state that it is added to (FIPS 197, 5.2)
abbrev pub IsKeyOf : ℕ → List ℕ → List ℕ → Type 0
IsKeyOf r planes w =
    (b row column : ℕ) → b < 2 → row < 4 → column < 4
    → state_in r planes b row column ≡ slice_index w (16 * r + (row + 4 * column))

-- the first n of the eleven keys in planes are the round keys of an expanded key (FIPS 197, 5.2)
abbrev pub AreKeysTo : ℕ → List (List ℕ) → List ℕ → Type 0
AreKeysTo n keys w = (r : ℕ) → r < n → IsKeyOf r (get_or keys r []) w

-- all eleven keys in planes are the round keys of an expanded key (FIPS 197, 5.2)
abbrev pub AreKeysOf : List (List ℕ) → List ℕ → Type 0
AreKeysOf = AreKeysTo 11

-- four words keep round key r of an expanded key, rotated like the state that it is added to (FIPS 197, 5.2)
abbrev pub KeepsKey : ℕ → List ℕ → List ℕ → Type 0
KeepsKey r words w = (row column : ℕ) → row < 4 → column < 4 → key_lane words (lane_of r 0 row column) ≡ slice_index w (16 * r + (row + 4 * column))

-- eleven times four words keep the round keys of an expanded key (FIPS 197, 5.2)
abbrev pub KeepKeys : List (List ℕ) → List ℕ → Type 0
KeepKeys keys w = (r : ℕ) → r < 11 → KeepsKey r (get_or keys r []) w

-- x and y after the bits of y under a mask have swapped with the bits of x that are k places higher (own rule)
abbrev pub exchanged : ℕ → ℕ → ℕ → ℕ → List ℕ
exchanged x y k mask =
    bit_xor x (bit_and (bit_xor (x / 2 ^ k) y) mask * 2 ^ k % 2 ^ 32) ∷ bit_xor y (bit_and (bit_xor (x / 2 ^ k) y) mask) ∷ []

-- eight words after each pair of neighbours has swapped such bits (own rule)
abbrev pub pairs_exchanged : List ℕ → ℕ → ℕ → List ℕ
pairs_exchanged words k mask =
    exchanged (slice_index words 0) (slice_index words 1) k mask ++ (exchanged (slice_index words 2) (slice_index words 3) k mask
    ++ (exchanged (slice_index words 4) (slice_index words 5) k mask ++ exchanged (slice_index words 6) (slice_index words 7) k mask))
