-- To be believed: AES-128 (FIPS 197, sections 3.4 and 5). block and key have 16 bytes each, s is a state, and w is an
-- expanded key of 176 bytes, the words w_0 to w_43; i counts words, round keys and rounds.
use Rattle.std.specs.Prelude.{◌≡◌, ℕ, zero, suc, ◌+◌, ◌-◌, ◌*◌, ◌/◌, ◌%◌, ◌==◌, List, [], ◌∷◌, ◌++◌, length, map, slice_index, bit_xor, if◌then◌else◌}
use Rattle.std.specs.List.{range_with_len}
use Rattle.osc_aes.specs.Field.{mul, power}
use Rattle.osc_aes.specs.SubstitutionBox.{substitute}

-- the byte at each row and column, both below 4 (FIPS 197, 3.4)
abbrev pub State : Type 0
State = ℕ → ℕ → ℕ

-- the state that a block fills column by column (FIPS 197, 3.4)
abbrev pub state_of : List ℕ → State
state_of block row column = slice_index block (row + 4 * column)

-- the 16 bytes of a state, column by column (FIPS 197, 3.4)
abbrev pub block_of : State → List ℕ
block_of s = map (λ k. s (k % 4) (k / 4)) (range_with_len 0 16)

-- the substitution box applied to each byte (FIPS 197, 5.1.1)
abbrev pub sub_bytes : State → State
sub_bytes s row column = substitute (s row column)

-- each row rotated left by its row number (FIPS 197, 5.1.2)
abbrev pub shift_rows : State → State
shift_rows s row column = s row ((column + row) % 4)

-- each column multiplied by the matrix whose first row is 02 03 01 01 (FIPS 197, 5.1.3)
abbrev pub mix_columns : State → State
mix_columns s row column =
    bit_xor (bit_xor (mul 2 (s row column)) (mul 3 (s ((row + 1) % 4) column)))
    (bit_xor (s ((row + 2) % 4) column) (s ((row + 3) % 4) column))

-- the sum of the state and round key i, whose columns are the words w_(4i) to w_(4i+3) (FIPS 197, 5.1.4)
abbrev pub add_round_key : List ℕ → ℕ → State → State
add_round_key w i s row column = bit_xor (s row column) (slice_index w (16 * i + (row + 4 * column)))

-- the four bytes of word i of an expanded key (FIPS 197, 5.2)
abbrev pub word_at : List ℕ → ℕ → List ℕ
word_at w i = slice_index w (4 * i) ∷ slice_index w (4 * i + 1) ∷ slice_index w (4 * i + 2) ∷ slice_index w (4 * i + 3) ∷ []

-- the sum of two words, byte by byte (FIPS 197, 5.2)
abbrev pub xor_word : List ℕ → List ℕ → List ℕ
xor_word u v =
    bit_xor (slice_index u 0) (slice_index v 0) ∷ bit_xor (slice_index u 1) (slice_index v 1)
    ∷ bit_xor (slice_index u 2) (slice_index v 2) ∷ bit_xor (slice_index u 3) (slice_index v 3) ∷ []

-- a word rotated left by one byte (FIPS 197, 5.2)
abbrev pub rot_word : List ℕ → List ℕ
rot_word u = slice_index u 1 ∷ slice_index u 2 ∷ slice_index u 3 ∷ slice_index u 0 ∷ []

-- a word with the substitution box applied to each byte (FIPS 197, 5.2)
abbrev pub sub_word : List ℕ → List ℕ
sub_word u = map substitute u

-- the round constant Rcon(j): x^(j - 1) in the first byte (FIPS 197, 5.2)
abbrev pub round_constant : ℕ → List ℕ
round_constant j = power 2 (j - 1) ∷ 0 ∷ 0 ∷ 0 ∷ []

-- what is added to w_(i - 4) to make w_i; last is w_(i - 1) (FIPS 197, 5.2)
abbrev pub added_word : List ℕ → ℕ → List ℕ
added_word last i = if i % 4 == 0 then xor_word (sub_word (rot_word last)) (round_constant (i / 4)) else last

-- the word w_i, computed by the recurrence from the words before it (FIPS 197, 5.2)
abbrev pub next_word : List ℕ → ℕ → List ℕ
next_word w i = xor_word (word_at w (i - 4)) (added_word (word_at w (i - 1)) i)

-- the bytes of w_0 to w_(3 + n): the key, then n more words (FIPS 197, 5.2)
unfoldable pub key_words : List ℕ → ℕ → List ℕ
key_words key zero = key
key_words key (suc n) = key_words key n ++ next_word (key_words key n) (n + 4)

-- the 176 bytes of w_0 to w_43 (FIPS 197, 5.2)
abbrev pub expanded_key : List ℕ → List ℕ
expanded_key key = key_words key 40

-- the block after the first round key is added and n rounds of all four steps are run (FIPS 197, 5.1)
unfoldable pub after_rounds : List ℕ → List ℕ → ℕ → List ℕ
after_rounds w block zero = block_of (add_round_key w 0 (state_of block))
after_rounds w block (suc n) =
    block_of (add_round_key w (n + 1) (mix_columns (shift_rows (sub_bytes (state_of (after_rounds w block n))))))

-- the block after nine rounds and the tenth round, which doesn't mix columns (FIPS 197, 5.1)
unfoldable pub cipher : List ℕ → List ℕ → List ℕ
cipher w block = block_of (add_round_key w 10 (shift_rows (sub_bytes (state_of (after_rounds w block 9)))))

-- a block encrypted with AES-128 under a key (FIPS 197, 5.1)
unfoldable pub aes128 : List ℕ → List ℕ → List ℕ
aes128 key block = cipher (expanded_key key) block

-- an encrypted block has 16 bytes, whatever the key and the block (FIPS 197, 3.1)
abbrev pub BlockKeepsItsLength : Type 0
BlockKeepsItsLength = (key block : List ℕ) → length (aes128 key block) ≡ 16
