-- For the proofs: AES-128 on words of 32 bits, as in the Rijndael proposal of Daemen and Rijmen, section 5.2.1. A column
-- is a word, and its highest byte is in row 0. words holds 4 columns, or the 44 words of an expanded key.
use Rattle.std.specs.Prelude.{◌≡◌, ℕ, ◌+◌, ◌-◌, ◌*◌, ◌/◌, ◌%◌, ◌<◌, ◌≤◌, List, [], ◌∷◌, map, slice_index, bit_xor}
use Rattle.std.specs.Int.{byte_at, to_be_bytes, from_be_bytes, w32}
use Rattle.std.specs.List.{range_with_len}
use Rattle.osc_aes.specs.Field.{mul}
use Rattle.osc_aes.specs.SubstitutionBox.{substitute}
use Rattle.osc_aes.specs.Aes128.{State, block_of, word_at}

-- the column that byte b of row 0 becomes, as a word: 02·S(b), S(b), S(b), 03·S(b), high byte first (Rijndael, 5.2.1)
unfoldable pub round_word : ℕ → ℕ
round_word b =
    from_be_bytes w32 (mul 2 (substitute b) ∷ substitute b ∷ substitute b ∷ mul 3 (substitute b) ∷ [])

-- a column whose bytes are one row further down, and the last of them in row 0 (Rijndael, 5.2.1)
abbrev pub one_row_down : List ℕ → List ℕ
one_row_down column = map (λ row. slice_index column ((row + 3) % 4)) (range_with_len 0 4)

-- a row of a column after substitution and mixing; before them, a is in this row and b, c, d are below it (FIPS 197, 5.1.3)
abbrev pub mixed_byte : ℕ → ℕ → ℕ → ℕ → ℕ
mixed_byte a b c d =
    bit_xor (bit_xor (mul 2 (substitute a)) (mul 3 (substitute b))) (bit_xor (substitute c) (substitute d))

-- a column after substitution and mixing, whose bytes are a, b, c and d before them (FIPS 197, 5.1.3)
abbrev pub mixed_column : ℕ → ℕ → ℕ → ℕ → List ℕ
mixed_column a b c d = mixed_byte a b c d ∷ mixed_byte b c d a ∷ mixed_byte c d a b ∷ mixed_byte d a b c ∷ []

-- the state whose columns are four words (FIPS 197, 3.5)
abbrev pub state_of_words : List ℕ → State
state_of_words words row column = byte_at (3 - row) (slice_index words column)

-- the block whose columns are four words (FIPS 197, 3.5)
abbrev pub block_of_words : List ℕ → List ℕ
block_of_words words = block_of (state_of_words words)

-- the sum of the state and round key i of 44 words, with a column's words side by side (FIPS 197, 5.1.4)
abbrev pub add_round_words : List ℕ → ℕ → State → State
add_round_words words i s row column = bit_xor (s row column) (byte_at (3 - row) (slice_index words (11 * column + i)))

-- the 44 words are w_0 to w_43, column by column: w_(4i + c) is at index 11c + i (FIPS 197, 5.2)
abbrev pub AreWordsOf : List ℕ → List ℕ → Type 0
AreWordsOf words w = (k : ℕ) → k < 44 → to_be_bytes w32 (slice_index words k) ≡ word_at w (4 * (k % 11) + k / 11)

-- of the 44 words, those of round keys 0 to i are the words of an expanded key (FIPS 197, 5.2)
abbrev pub AreWordsTo : ℕ → List ℕ → List ℕ → Type 0
AreWordsTo i words w =
    (k : ℕ) → k < 44 → k % 11 ≤ i → to_be_bytes w32 (slice_index words k) ≡ word_at w (4 * (k % 11) + k / 11)

-- the four words are those of round key i (FIPS 197, 5.2)
abbrev pub AreRoundKey : ℕ → List ℕ → List ℕ → Type 0
AreRoundKey i words w = (c : ℕ) → c < 4 → to_be_bytes w32 (slice_index words c) ≡ word_at w (4 * i + c)
