-- The bits of words that bytes make, and the bytes of words.
use Rattle.std.proofs.Common.{◌≡◌, ℕ, zero, suc, ◌+◌, ◌-◌, ◌*◌, ◌/◌, ◌%◌, ◌^◌, ◌<◌, List, [], ◌∷◌, length, refl, ap, ap₂, ◌∙◌, sym, get_or, drop, arith}
use Rattle.std.specs.Int.{bit_at, byte_at, bytes_low_first}
use Rattle.std.specs.List.{flat_map}
use Rattle.std.proofs.lemmas.Nat.{shr-shr}
use Rattle.std.proofs.lemmas.Nat.Bits.{bit_at_cat_low, bit_at_cat_high}
use Rattle.std.proofs.lemmas.List.{get_or-drop, get_or_append_left, get_or-append_right}
use Rattle.std.proofs.lemmas.List.FromFn.{fill_by_all}
use Rattle.byteorder.specs.Endian.{little_from, little_number, little_bytes}
use Rattle.byteorder.specs.Numbers.{length-bytes_low_first}
use Rattle.osc_aes.specs.Views.{lane}
use Rattle.osc_aes.specs.Lanes.{block_in, lane_of, state_in}
use Rattle.osc_aes.proofs.LaneBytes.{lane-byte}
use Rattle.osc_aes.proofs.LinearPrograms.{bit_at-down}

-- bit t of byte q of a number that bytes spell
little_bit : (m i : ℕ) (xs : List ℕ) → ((k : ℕ) → get_or xs k 0 < 256) → (q t : ℕ) → q < m → t < 8
    → bit_at (little_from i m xs) (8 * q + t) ≡ bit_at (get_or xs (i + q) 0) t
little_bit zero i xs fit q t lt ltt = absurd (omega arith)
little_bit (suc m) i xs fit zero t lt ltt =
    let b : ℕ = get_or xs i 0 in
    let r : ℕ = little_from (suc i) m xs in
    let e : b + 256 * r ≡ r * 2 ^ 8 + b = omega arith in
    let place : 8 * 0 + t ≡ t = omega arith in
    let none : i ≡ i + 0 = omega arith in
    ap₂ bit_at e place ∙ bit_at_cat_low r 8 b t ltt ∙ ap (λ (j : ℕ). bit_at (get_or xs j 0) t) none
little_bit (suc m) i xs fit (suc q) t lt ltt =
    let b : ℕ = get_or xs i 0 in
    let r : ℕ = little_from (suc i) m xs in
    let e : b + 256 * r ≡ r * 2 ^ 8 + b = omega arith in
    let place : 8 * suc q + t - 8 ≡ 8 * q + t = omega arith in
    let same : suc i + q ≡ i + suc q = omega arith in
    ap (λ (x : ℕ). bit_at x (8 * suc q + t)) e ∙ bit_at_cat_high r 8 b (8 * suc q + t) (omega (arith, fit i)) (omega arith)
    ∙ ap (bit_at r) place ∙ little_bit m (suc i) xs fit q t (omega arith) ltt ∙ ap (λ (j : ℕ). bit_at (get_or xs j 0) t) same

-- bit t of byte r of a word of a block
word_bit : (block : List ℕ) → ((k : ℕ) → get_or block k 0 < 256) → (c r t : ℕ) → r < 4 → t < 8
    → bit_at (little_number 4 (drop (4 * c) block)) (8 * r + t) ≡ bit_at (get_or block (r + 4 * c) 0) t
word_bit block fit c r t ltr ltt =
    let rest : List ℕ = drop (4 * c) block in
    let at : 4 * c + (0 + r) ≡ r + 4 * c = omega arith in
    little_bit 4 0 rest (λ k. let h = fit (4 * c + k) in let e = get_or-drop (4 * c) block k 0 in omega (arith, h, e)) r t ltr ltt
    ∙ ap (λ (x : ℕ). bit_at x t) (get_or-drop (4 * c) block (0 + r) 0 ∙ ap (λ (j : ℕ). get_or block j 0) at)

module _ (block words planes : List ℕ) (b : ℕ) (few : b < 2) (long : length block ≡ 16) (fit : (k : ℕ) → get_or block k 0 < 256)
    (read : (c : ℕ) → c < 4 → get_or words (2 * c + b) 0 ≡ little_number 4 (drop (4 * c) block))
    (bits : (t i : ℕ) → t < 8 → i < 32 → bit_at (get_or planes t 0) i ≡ bit_at (get_or words (i % 8) 0) (8 * (i / 8) + t)) where
  -- a lane holds the byte of its row and column
  packed_byte : (r c : ℕ) → r < 4 → c < 4 → lane planes (8 * r + (2 * c + b)) ≡ get_or block (r + 4 * c) 0
  packed_byte r c ltr ltc =
      let i : ℕ = 8 * r + (2 * c + b) in
      let word : i % 8 ≡ 2 * c + b = omega (arith, few, ltc) in
      let row : i / 8 ≡ r = omega (arith, few, ltc) in
      lane-byte planes i (get_or block (r + 4 * c) 0) (fit (r + 4 * c)) (λ t ltt.
      bits t i ltt (omega (arith, few, ltr, ltc)) ∙ ap₂ (λ (x y : ℕ). bit_at (get_or words x 0) (8 * y + t)) word row
      ∙ ap (λ (x : ℕ). bit_at x (8 * r + t)) (read c ltc) ∙ word_bit block fit c r t ltr ltt)

  -- planes of the words of a block hold that block
  pub packed_block : block_in 0 planes b ≡ block
  packed_block =
      sym (fill_by_all (λ k. state_in 0 planes b (k % 4) (k / 4)) block 16 0 long (λ k lt.
      let place : k % 4 + 4 * (k / 4) ≡ k = omega arith in
      let seat : lane_of 0 b (k % 4) (k / 4) ≡ 8 * (k % 4) + (2 * (k / 4) + b) = omega (arith, lt) in
      sym (ap (lane planes) seat ∙ packed_byte (k % 4) (k / 4) (omega arith) (omega (arith, lt))
      ∙ ap (λ (j : ℕ). get_or block j 0) place)))

-- the words of two blocks by turns
abbrev pub by_turns : List ℕ → List ℕ → List ℕ
by_turns a b =
    get_or a 0 0 ∷ get_or b 0 0 ∷ get_or a 1 0 ∷ get_or b 1 0 ∷ get_or a 2 0 ∷ get_or b 2 0 ∷ get_or a 3 0 ∷ get_or b 3 0 ∷ []

-- those of the first block
pub get_or-first : (a b : List ℕ) (c : ℕ) → c < 4 → get_or (by_turns a b) (2 * c + 0) 0 ≡ get_or a c 0
get_or-first a b zero lt = refl
get_or-first a b (suc zero) lt = refl
get_or-first a b (suc (suc zero)) lt = refl
get_or-first a b (suc (suc (suc zero))) lt = refl
get_or-first a b (suc (suc (suc (suc c)))) lt = absurd (omega arith)

-- those of the second
pub get_or-second : (a b : List ℕ) (c : ℕ) → c < 4 → get_or (by_turns a b) (2 * c + 1) 0 ≡ get_or b c 0
get_or-second a b zero lt = refl
get_or-second a b (suc zero) lt = refl
get_or-second a b (suc (suc zero)) lt = refl
get_or-second a b (suc (suc (suc zero))) lt = refl
get_or-second a b (suc (suc (suc (suc c)))) lt = absurd (omega arith)

-- ---- and back

-- the words of block b among eight
abbrev pub words_of : ℕ → List ℕ → List ℕ
words_of b ws = get_or ws (2 * 0 + b) 0 ∷ get_or ws (2 * 1 + b) 0 ∷ get_or ws (2 * 2 + b) 0 ∷ get_or ws (2 * 3 + b) 0 ∷ []

-- one of them
get_or-words_of : (b : ℕ) (ws : List ℕ) (c : ℕ) → c < 4 → get_or (words_of b ws) c 0 ≡ get_or ws (2 * c + b) 0
get_or-words_of b ws zero lt = refl
get_or-words_of b ws (suc zero) lt = refl
get_or-words_of b ws (suc (suc zero)) lt = refl
get_or-words_of b ws (suc (suc (suc zero))) lt = refl
get_or-words_of b ws (suc (suc (suc (suc c)))) lt = absurd (omega arith)

-- a byte of a word that is written low byte first
get_or-low_bytes : (m i x q : ℕ) → q < m → get_or (bytes_low_first i m x) q 0 ≡ byte_at (i + q) x
get_or-low_bytes zero i x q lt = absurd (omega arith)
get_or-low_bytes (suc m) i x zero lt = ap (λ (j : ℕ). byte_at j x) (omega arith)
get_or-low_bytes (suc m) i x (suc q) lt =
    let same : suc i + q ≡ i + suc q = omega arith in
    get_or-low_bytes m (suc i) x q (omega arith) ∙ ap (λ (j : ℕ). byte_at j x) same

-- a byte of words that are written so
get_or-words : (ws : List ℕ) (k q : ℕ) → k < length ws → q < 4 → get_or (flat_map (little_bytes 4) ws) (4 * k + q) 0 ≡ byte_at q (get_or ws k 0)
get_or-words [] k q lt ltq = absurd (omega arith)
get_or-words (w ∷ ws) zero q lt ltq =
    let long : length (little_bytes 4 w) ≡ 4 = length-bytes_low_first 0 4 w in
    let at : 4 * 0 + q ≡ q = omega arith in
    ap (λ (j : ℕ). get_or (flat_map (little_bytes 4) (w ∷ ws)) j 0) at
    ∙ get_or_append_left (little_bytes 4 w) (flat_map (little_bytes 4) ws) 0 q (omega (arith, long, ltq))
    ∙ get_or-low_bytes 4 0 w q ltq ∙ ap (λ (j : ℕ). byte_at j w) (omega arith)
get_or-words (w ∷ ws) (suc k) q lt ltq =
    let long : length (little_bytes 4 w) ≡ 4 = length-bytes_low_first 0 4 w in
    let at : 4 * suc k + q - 4 ≡ 4 * k + q = omega arith in
    get_or-append_right (little_bytes 4 w) (flat_map (little_bytes 4) ws) 4 (4 * suc k + q) 0 long (omega arith)
    ∙ ap (λ (j : ℕ). get_or (flat_map (little_bytes 4) ws) j 0) at ∙ get_or-words ws k q (omega arith) ltq

-- a byte of a word, by arithmetic
byte_at-is : (q w : ℕ) → q < 4 → byte_at q w ≡ w / 2 ^ (8 * q) % 2 ^ 8
byte_at-is zero w lt = omega arith
byte_at-is (suc zero) w lt = refl
byte_at-is (suc (suc zero)) w lt = refl
byte_at-is (suc (suc (suc zero))) w lt = refl
byte_at-is (suc (suc (suc (suc q)))) w lt = absurd (omega arith)

-- and so it is one
byte_at-lt : (q w : ℕ) → q < 4 → byte_at q w < 256
byte_at-lt q w lt = let e = byte_at-is q w lt in omega (arith, e)

-- a bit of a byte of a word
byte-bit : (w q t : ℕ) → q < 4 → t < 8 → bit_at (byte_at q w) t ≡ bit_at w (8 * q + t)
byte-bit w q t ltq lt =
    let n : ℕ = w / 2 ^ (8 * q) in
    let e : n / 2 ^ 8 * 2 ^ 8 + n % 2 ^ 8 ≡ n = omega arith in
    ap (λ (x : ℕ). bit_at x t) (byte_at-is q w ltq) ∙ sym (bit_at_cat_low (n / 2 ^ 8) 8 (n % 2 ^ 8) t lt) ∙ ap (λ (x : ℕ). bit_at x t) e ∙ ap (λ (x : ℕ). x % 2) (shr-shr w (8 * q) t)

-- a lane whose bits are those of a byte of a word
lane-of_word : (planes : List ℕ) (w i q : ℕ) → q < 4 → ((t : ℕ) → t < 8 → bit_at w (8 * q + t) ≡ bit_at (get_or planes t 0) i)
    → byte_at q w ≡ lane planes i
lane-of_word planes w i q lt bits =
    sym (lane-byte planes i (byte_at q w) (byte_at-lt q w lt) (λ t ltt. sym (byte-bit w q t lt ltt ∙ bits t ltt)))

-- the lane from which bit t of row r comes to column c of block b
lane-back : (r c b t : ℕ) → b < 2 → t < 8
    → 8 * ((8 * r + t) / 8) + (2 * (((2 * c + b) / 2 + 2 * ((8 * r + t) / 8)) % 4) + (2 * c + b) % 2) ≡ lane_of 10 b r c
lane-back r c b t few lt =
    let row : (8 * r + t) / 8 ≡ r = omega (arith, lt) in
    let column : (2 * c + b) / 2 ≡ c = omega (arith, few) in
    let block : (2 * c + b) % 2 ≡ b = omega (arith, few) in
    omega (arith, row, column, block)

-- planes after ten rounds, transposed and turned back, are written as the block
pub unpacked_block : (planes across words bytes : List ℕ) (b : ℕ) → b < 2 → length bytes ≡ 16
    → bytes ≡ flat_map (little_bytes 4) (words_of b words)
    → ((t i : ℕ) → t < 8 → i < 32 → bit_at (get_or across t 0) i ≡ bit_at (get_or planes (i % 8) 0) (8 * (i / 8) + t))
    → ((k p : ℕ) → k < 8 → p < 32 → bit_at (get_or words k 0) p ≡ bit_at (get_or across (2 * ((k / 2 + 2 * (p / 8)) % 4) + k % 2) 0) p)
    → bytes ≡ block_in 10 planes b
unpacked_block planes across words bytes b few sixteen wrote turned back =
    fill_by_all (λ n. state_in 10 planes b (n % 4) (n / 4)) bytes 16 0 sixteen (λ n lt.
    let c : ℕ = n / 4 in
    let r : ℕ = n % 4 in
    let place : n ≡ 4 * c + r = omega arith in
    let small : c < 4 = omega (arith, lt) in
    let low : r < 4 = omega arith in
    ap₂ (λ (bs : List ℕ) (j : ℕ). get_or bs j 0) wrote place ∙ get_or-words (words_of b words) c r small low
    ∙ ap (byte_at r) (get_or-words_of b words c small)
    ∙ lane-of_word planes (get_or words (2 * c + b) 0) (lane_of 10 b r c) r low (λ t ltt.
    let p : ℕ = 8 * r + t in
    let from : ℕ = 2 * (((2 * c + b) / 2 + 2 * (p / 8)) % 4) + (2 * c + b) % 2 in
    let plane : p % 8 ≡ t = omega (arith, ltt) in
    back (2 * c + b) p (omega (arith, small, few)) (omega (arith, low, ltt))
    ∙ turned from p (omega (arith, few)) (omega (arith, low, ltt))
    ∙ ap₂ (λ (u v : ℕ). bit_at (get_or planes u 0) v) plane (lane-back r c b t few ltt)))

-- ---- the bytes of one word of a key

-- a number and its shifts
abbrev pub shifts : ℕ → List ℕ
shifts x = x ∷ x / 2 ^ 1 ∷ x / 2 ^ 2 ∷ x / 2 ^ 3 ∷ x / 2 ^ 4 ∷ x / 2 ^ 5 ∷ x / 2 ^ 6 ∷ x / 2 ^ 7 ∷ []

-- a bit of a number shifted down
shifted_bit : (x i k : ℕ) → bit_at (x / 2 ^ k) i ≡ bit_at x (i + k)
shifted_bit x i k = bit_at-down x k i ∙ ap (bit_at x) (omega arith)

-- a bit of one of them
bit_at-shifts : (x i t : ℕ) → t < 8 → bit_at (get_or (shifts x) t 0) i ≡ bit_at x (i + t)
bit_at-shifts x i zero lt = ap (bit_at x) (omega arith)
bit_at-shifts x i (suc zero) lt = shifted_bit x i 1
bit_at-shifts x i (suc (suc zero)) lt = shifted_bit x i 2
bit_at-shifts x i (suc (suc (suc zero))) lt = shifted_bit x i 3
bit_at-shifts x i (suc (suc (suc (suc zero)))) lt = shifted_bit x i 4
bit_at-shifts x i (suc (suc (suc (suc (suc zero))))) lt = shifted_bit x i 5
bit_at-shifts x i (suc (suc (suc (suc (suc (suc zero)))))) lt = shifted_bit x i 6
bit_at-shifts x i (suc (suc (suc (suc (suc (suc (suc zero))))))) lt = shifted_bit x i 7
bit_at-shifts x i (suc (suc (suc (suc (suc (suc (suc (suc t)))))))) lt = absurd (omega arith)

-- the shifts of a number have its bytes in every eighth lane
pub word_planes-lane : (bytes : List ℕ) (x : ℕ) → ((k : ℕ) → get_or bytes k 0 < 256) → x ≡ little_number 4 bytes
    → (n : ℕ) → n < 4 → lane (shifts x) (8 * n) ≡ get_or bytes n 0
word_planes-lane bytes x fit e n lt =
    lane-byte (shifts x) (8 * n) (get_or bytes n 0) (fit n) (λ t ltt.
    bit_at-shifts x (8 * n) t ltt ∙ ap (λ (y : ℕ). bit_at y (8 * n + t)) e ∙ little_bit 4 0 bytes fit n t lt ltt
    ∙ ap (λ (j : ℕ). bit_at (get_or bytes j 0) t) (omega arith))

-- the bytes of a number whose bits are those of every eighth lane
pub word_in-byte : (planes bytes : List ℕ) (x : ℕ) → bytes ≡ little_bytes 4 x
    → ((p : ℕ) → p < 32 → bit_at x p ≡ bit_at (get_or planes (p % 8) 0) (8 * (p / 8)))
    → (n : ℕ) → n < 4 → get_or bytes n 0 ≡ lane planes (8 * n)
word_in-byte planes bytes x wrote bits n lt =
    ap (λ (bs : List ℕ). get_or bs n 0) wrote ∙ get_or-low_bytes 4 0 x n lt ∙ ap (λ (j : ℕ). byte_at j x) (omega arith)
    ∙ lane-of_word planes x (8 * n) n lt (λ t ltt.
    let plane : (8 * n + t) % 8 ≡ t = omega (arith, ltt) in
    let seat : 8 * ((8 * n + t) / 8) ≡ 8 * n = omega (arith, ltt) in
    bits (8 * n + t) (omega (arith, lt, ltt)) ∙ ap₂ (λ (u v : ℕ). bit_at (get_or planes u 0) v) plane seat)
