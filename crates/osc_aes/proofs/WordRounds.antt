-- A word's bytes under xor, and rounds on words.
use Rattle.std.proofs.Common.{◌≡◌, ℕ, zero, suc, ◌+◌, ◌-◌, ◌*◌, ◌/◌, ◌%◌, ◌^◌, ◌<◌, List, [], ◌∷◌, ◌++◌, get_or, bit_or, bit_xor, refl, ap, ap₂, ◌∙◌, sym, arith, add-zero, add-one, w32}
use Rattle.std.proofs.lemmas.Nat.{or_comm, or_shifted, xor_mod, xor_shr, xor_comm}
use Rattle.std.proofs.lemmas.List.FromFn.{fill_by_all, get_or-map-range_with_len}
use Rattle.std.specs.Int.{byte_at, rotate_right, to_be_bytes}
use Rattle.osc_aes.specs.Field.{mul}
use Rattle.osc_aes.specs.SubstitutionBox.{substitute}
use lib.Bits.{xor_assoc}
use Rattle.osc_aes.specs.Aes128.{State, add_round_key, after_rounds, block_of, cipher, mix_columns, shift_rows, state_of, sub_bytes, word_at, xor_word}
use Rattle.osc_aes.specs.RoundWords.{AreWordsOf, add_round_words, block_of_words, mixed_column, one_row_down}
use Rattle.osc_aes.proofs.Entries.{column_of_byte}

-- eight bits of a number from bit k on are added bit by bit
bits_at-xor : (k x y : ℕ) → bit_xor x y / 2 ^ k % 2 ^ 8 ≡ bit_xor (x / 2 ^ k % 2 ^ 8) (y / 2 ^ k % 2 ^ 8)
bits_at-xor k x y = ap (λ (n : ℕ). n % 2 ^ 8) (xor_shr x y k) ∙ xor_mod (x / 2 ^ k) (y / 2 ^ k) 8

-- the bytes of a sum
pub to_be_bytes-xor : (x y : ℕ) → to_be_bytes w32 (bit_xor x y) ≡ xor_word (to_be_bytes w32 x) (to_be_bytes w32 y)
to_be_bytes-xor x y =
    let before : ℕ → List ℕ → List ℕ = λ b bs. b ∷ bs in
    ap₂ before (bits_at-xor 24 x y)
    (ap₂ before (bits_at-xor 16 x y) (ap₂ before (bits_at-xor 8 x y) (ap (λ (b : ℕ). b ∷ []) (xor_mod x y 8))))

-- the bytes of a sum, from the bytes of its words
pub bytes-sum : (x y : ℕ) (X Y : List ℕ) → to_be_bytes w32 x ≡ X → to_be_bytes w32 y ≡ Y → to_be_bytes w32 (bit_xor x y) ≡ xor_word X Y
bytes-sum x y X Y ex ey = to_be_bytes-xor x y ∙ ap₂ xor_word ex ey

-- the bytes of a word that is rotated by one of them
pub bytes-rotated : (n : ℕ) → n < 2 ^ 32 → to_be_bytes w32 (rotate_right w32 n 8) ≡ one_row_down (to_be_bytes w32 n)
bytes-rotated n fits =
    let high : ℕ = n / 2 ^ 8 in
    let low : ℕ = n % 2 ^ 8 in
    let short : high < 2 ^ 24 = omega arith in
    let moved : n * 2 ^ 24 % 2 ^ 32 ≡ low * 2 ^ 24 = omega arith in
    let e : rotate_right w32 n 8 ≡ low * 2 ^ 24 + high =
    ap (bit_or high) moved ∙ or_comm high (low * 2 ^ 24) ∙ or_shifted low 24 high short in
    let before : ℕ → List ℕ → List ℕ = λ b bs. b ∷ bs in
    let m : ℕ = rotate_right w32 n 8 in
    let row0 : byte_at 3 m ≡ byte_at 0 n = omega (arith, e) in
    let row1 : byte_at 2 m ≡ byte_at 3 n = omega (arith, e) in
    let row2 : byte_at 1 m ≡ byte_at 2 n = omega (arith, e) in
    let row3 : byte_at 0 m ≡ byte_at 1 n = omega (arith, e) in
    ap₂ before row0 (ap₂ before row1 (ap₂ before row2 (ap (λ (b : ℕ). b ∷ []) row3)))

-- a sum of four, with the first one last
xor_turn : (a b c d : ℕ) → bit_xor a (bit_xor b (bit_xor c d)) ≡ bit_xor (bit_xor b c) (bit_xor d a)
xor_turn a b c d =
    xor_comm a (bit_xor b (bit_xor c d)) ∙ ap (λ (x : ℕ). bit_xor x a) (sym (xor_assoc b c d)) ∙ xor_assoc (bit_xor b c) d a

-- the mixed column is the sum of four columns, each as many rows down as its byte
pub columns-mixed : (a b c d : ℕ)
    → xor_word (column_of_byte a) (one_row_down (xor_word (column_of_byte b) (one_row_down (xor_word (column_of_byte c) (one_row_down (column_of_byte d))))))
    ≡ mixed_column a b c d
columns-mixed a b c d =
    let two : ℕ → ℕ = λ x. mul 2 (substitute x) in
    let three : ℕ → ℕ = λ x. mul 3 (substitute x) in
    let one : ℕ → ℕ = substitute in
    let before : ℕ → List ℕ → List ℕ = λ x xs. x ∷ xs in
    ap₂ before (sym (xor_assoc (two a) (three b) (bit_xor (one c) (one d))))
    (ap₂ before (xor_turn (one a) (two b) (three c) (one d))
    (ap₂ before (sym (xor_assoc (one a) (one b) (bit_xor (two c) (three d))) ∙ xor_comm (bit_xor (one a) (one b)) (bit_xor (two c) (three d)))
    (ap (λ (x : ℕ). x ∷ []) (
    xor_turn (three a) (one b) (one c) (two d) ∙ xor_comm (bit_xor (one b) (one c)) (bit_xor (two d) (three a))
    ))))

-- a byte of a word in its list
byte_of_word : (r n : ℕ) → r < 4 → byte_at (3 - r) n ≡ get_or (to_be_bytes w32 n) r 0
byte_of_word zero n h = refl
byte_of_word (suc zero) n h = refl
byte_of_word (suc (suc zero)) n h = refl
byte_of_word (suc (suc (suc zero))) n h = refl
byte_of_word (suc (suc (suc (suc r)))) n h = absurd (omega arith)

-- a byte of a word of an expanded key
byte_of_key : (w : List ℕ) (i r : ℕ) → r < 4 → get_or (word_at w i) r 0 ≡ get_or w (4 * i + r) 0
byte_of_key w i zero h = rw add-zero refl
byte_of_key w i (suc zero) h = refl
byte_of_key w i (suc (suc zero)) h = refl
byte_of_key w i (suc (suc (suc zero))) h = refl
byte_of_key w i (suc (suc (suc (suc r)))) h = absurd (omega arith)

-- states that agree at each row and column have one block
same_block : (s t : State) → ((r c : ℕ) → r < 4 → c < 4 → s r c ≡ t r c) → block_of s ≡ block_of t
same_block s t same =
    fill_by_all (λ k. t (k % 4) (k / 4)) (block_of s) 16 0 refl
    (λ k lt. get_or-map-range_with_len (λ k. s (k % 4) (k / 4)) 0 16 k k 0 lt (omega arith) ∙ same (k % 4) (k / 4) (omega arith) (omega arith))

-- the bytes of a column of a state
abbrev column : State → ℕ → List ℕ
column s c = s 0 c ∷ s 1 c ∷ s 2 c ∷ s 3 c ∷ []

-- four words are the columns of a state, with their words of a round key
pub columns_added : (words : List ℕ) (i : ℕ) (s : State) (w0 w1 w2 w3 k0 k1 k2 k3 : ℕ)
    → k0 ≡ get_or words (11 * 0 + i) 0 → to_be_bytes w32 w0 ≡ xor_word (column s 0) (to_be_bytes w32 k0)
    → k1 ≡ get_or words (11 * 1 + i) 0 → to_be_bytes w32 w1 ≡ xor_word (column s 1) (to_be_bytes w32 k1)
    → k2 ≡ get_or words (11 * 2 + i) 0 → to_be_bytes w32 w2 ≡ xor_word (column s 2) (to_be_bytes w32 k2)
    → k3 ≡ get_or words (11 * 3 + i) 0 → to_be_bytes w32 w3 ≡ xor_word (column s 3) (to_be_bytes w32 k3)
    → block_of_words (w0 ∷ w1 ∷ w2 ∷ w3 ∷ []) ≡ block_of (add_round_words words i s)
columns_added words i s w0 w1 w2 w3 k0 k1 k2 k3 e0 h0 e1 h1 e2 h2 e3 h3 =
    let with_key : (c w k k' : ℕ) → k ≡ k' → to_be_bytes w32 w ≡ xor_word (column s c) (to_be_bytes w32 k)
    → to_be_bytes w32 w ≡ xor_word (column s c) (to_be_bytes w32 k') =
    λ c w k k' e h. h ∙ ap (λ (n : ℕ). xor_word (column s c) (to_be_bytes w32 n)) e in
    ap₂ ◌++◌ (with_key 0 w0 k0 _ e0 h0)
    (ap₂ ◌++◌ (with_key 1 w1 k1 _ e1 h1) (ap₂ ◌++◌ (with_key 2 w2 k2 _ e2 h2) (with_key 3 w3 k3 _ e3 h3)))

-- a round key in words
pub add_words : (words w : List ℕ) (i : ℕ) (s : State) → AreWordsOf words w → i < 11
    → block_of (add_round_words words i s) ≡ block_of (add_round_key w i s)
add_words words w i s held lt =
    same_block (add_round_words words i s) (add_round_key w i s) (λ r c hr hc.
    let at : 4 * (4 * i + c) + r ≡ 16 * i + (r + 4 * c) = omega arith in
    let place : 4 * ((11 * c + i) % 11) + (11 * c + i) / 11 ≡ 4 * i + c = omega arith in
    ap (bit_xor (s r c)) (
    byte_of_word r (get_or words (11 * c + i) 0) hr
    ∙ ap (λ (l : List ℕ). get_or l r 0) (held (11 * c + i) (omega arith) ∙ ap (word_at w) place)
    ∙ byte_of_key w (4 * i + c) r hr
    ∙ ap (λ (j : ℕ). get_or w j 0) at
    ))

-- one round
pub words_more : (words w block b b' : List ℕ) (n : ℕ) → AreWordsOf words w → n < 10 → b ≡ after_rounds w block n
    → b' ≡ block_of (add_round_words words (n + 1) (mix_columns (shift_rows (sub_bytes (state_of b)))))
    → b' ≡ after_rounds w block (n + 1)
unfolding after_rounds
words_more words w block b b' n held lt e0 e1 =
    rw add-one
    (e1 ∙ add_words words w (n + 1) (mix_columns (shift_rows (sub_bytes (state_of b)))) held (omega arith)
    ∙ ap (λ (x : List ℕ). block_of (add_round_key w (n + 1) (mix_columns (shift_rows (sub_bytes (state_of x)))))) e0)

-- the first round key
pub words_first : (words w block b' : List ℕ) → AreWordsOf words w
    → b' ≡ block_of (add_round_words words 0 (state_of block)) → b' ≡ after_rounds w block 0
unfolding after_rounds
words_first words w block b' held e1 = e1 ∙ add_words words w 0 (state_of block) held (omega arith)

-- the last round
pub words_last : (words w block b b' : List ℕ) → AreWordsOf words w → b ≡ after_rounds w block 9
    → b' ≡ block_of (add_round_words words 10 (shift_rows (sub_bytes (state_of b)))) → b' ≡ cipher w block
unfolding cipher
words_last words w block b b' held e0 e1 =
    e1 ∙ add_words words w 10 (shift_rows (sub_bytes (state_of b))) held (omega arith)
    ∙ ap (λ (x : List ℕ). block_of (add_round_key w 10 (shift_rows (sub_bytes (state_of x))))) e0
