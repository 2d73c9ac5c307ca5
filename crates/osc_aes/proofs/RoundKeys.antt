-- Round keys as words: the next from the last, and their places among the 44.
use Rattle.std.proofs.Common.{◌≡◌, ℕ, zero, suc, ◌+◌, ◌*◌, ◌/◌, ◌%◌, ◌<◌, List, [], ◌∷◌, length, get_or, set, length-set, get_or-set_other, get_or-set_same, bit_xor, inl, inr, ap, ap₂, ◌∙◌, sym, arith, w32}
use Rattle.std.proofs.lemmas.Bool.{cases_eq}
use Rattle.std.specs.Int.{to_be_bytes}
use Rattle.osc_aes.specs.Aes128.{added_word, expanded_key, word_at, xor_word}
use Rattle.osc_aes.specs.RoundWords.{AreRoundKey, AreWordsTo}
use Rattle.osc_aes.proofs.Keys.{added_word-within, expanded_key-word}
use Rattle.osc_aes.proofs.WordRounds.{to_be_bytes-xor}

-- the word of a round key and a column
pub held_word : (words w : List ℕ) (i c x : ℕ) → AreWordsTo i words w → i < 11 → c < 4
    → x ≡ get_or words (11 * c + i) 0 → to_be_bytes w32 x ≡ word_at w (4 * i + c)
held_word words w i c x held hi hc e =
    let place : 4 * ((11 * c + i) % 11) + (11 * c + i) / 11 ≡ 4 * i + c = omega (arith, hi, hc) in
    ap (to_be_bytes w32) e ∙ held (11 * c + i) (omega (arith, hi, hc)) (omega (arith, hi, hc)) ∙ ap (word_at w) place

module _ (key : List ℕ) (i : ℕ) (long : length key ≡ 16) (lt : i < 10) where
  -- a word of the next round key
  next_sum : (c x y : ℕ) → c < 4 → to_be_bytes w32 x ≡ word_at (expanded_key key) (4 * i + c)
      → to_be_bytes w32 y ≡ added_word (word_at (expanded_key key) (4 * i + c + 3)) (4 * i + c + 4)
      → to_be_bytes w32 (bit_xor x y) ≡ word_at (expanded_key key) (4 * (i + 1) + c)
  next_sum c x y hc ex ey =
      let place : 4 * i + c + 4 ≡ 4 * (i + 1) + c = omega arith in
      to_be_bytes-xor x y ∙ ap₂ xor_word ex ey ∙ sym (expanded_key-word key (4 * i + c) long (omega (arith, lt, hc)))
      ∙ ap (word_at (expanded_key key)) place

  -- the first word of the next round key
  pub first_sum : (x y last : ℕ) → to_be_bytes w32 x ≡ word_at (expanded_key key) (4 * i + 0)
      → to_be_bytes w32 last ≡ word_at (expanded_key key) (4 * i + 3)
      → to_be_bytes w32 y ≡ added_word (to_be_bytes w32 last) (4 * i + 4)
      → to_be_bytes w32 (bit_xor x y) ≡ word_at (expanded_key key) (4 * (i + 1) + 0)
  first_sum x y last ex el ey =
      let none : 4 * i ≡ 4 * i + 0 = omega arith in
      next_sum 0 x y (omega arith) ex
      (ey ∙ ap (λ (u : List ℕ). added_word u (4 * i + 4)) el
      ∙ ap (λ (n : ℕ). added_word (word_at (expanded_key key) (n + 3)) (n + 4)) none)

  -- a further word, from the word before it
  pub further_sum : (c x y : ℕ) → c < 3 → to_be_bytes w32 x ≡ word_at (expanded_key key) (4 * i + (c + 1))
      → to_be_bytes w32 y ≡ word_at (expanded_key key) (4 * (i + 1) + c)
      → to_be_bytes w32 (bit_xor x y) ≡ word_at (expanded_key key) (4 * (i + 1) + (c + 1))
  further_sum c x y hc ex ey =
      let place : 4 * (i + 1) + c ≡ 4 * i + (c + 1) + 3 = omega arith in
      next_sum (c + 1) x y (omega (arith, hc)) ex
      (ey ∙ ap (word_at (expanded_key key)) place
      ∙ sym (added_word-within (word_at (expanded_key key) (4 * i + (c + 1) + 3)) (4 * i + (c + 1) + 4) (omega (arith, hc))))

-- four words are a round key
pub four_words : (w : List ℕ) (i a b c d : ℕ)
    → to_be_bytes w32 a ≡ word_at w (4 * i + 0) → to_be_bytes w32 b ≡ word_at w (4 * i + 1)
    → to_be_bytes w32 c ≡ word_at w (4 * i + 2) → to_be_bytes w32 d ≡ word_at w (4 * i + 3)
    → AreRoundKey i (a ∷ b ∷ c ∷ d ∷ []) w
four_words w i a b c d ea eb ec ed zero h = ea
four_words w i a b c d ea eb ec ed (suc zero) h = eb
four_words w i a b c d ea eb ec ed (suc (suc zero)) h = ec
four_words w i a b c d ea eb ec ed (suc (suc (suc zero))) h = ed
four_words w i a b c d ea eb ec ed (suc (suc (suc (suc k)))) h = absurd (omega arith)

-- one word put at its place p, which is that of column c in round key i
put_word : (words w : List ℕ) (i c p x k : ℕ) → length words ≡ 44 → i < 11 → c < 4 → p ≡ 11 * c + i
    → to_be_bytes w32 x ≡ word_at w (4 * i + c)
    → ((k ≡ p → ⊥) → to_be_bytes w32 (get_or words k 0) ≡ word_at w (4 * (k % 11) + k / 11))
    → to_be_bytes w32 (get_or (set words p x) k 0) ≡ word_at w (4 * (k % 11) + k / 11)
put_word words w i c p x k long hi hc ep ex rest = elim (cases_eq k p) [
  | inl same ↦
      let place : 4 * i + c ≡ 4 * (p % 11) + p / 11 = omega (arith, ep, hi, hc) in
      rw same (ap (to_be_bytes w32) (get_or-set_same words p x 0 (omega (arith, long, ep, hi, hc))) ∙ ex ∙ ap (word_at w) place)
  | inr other ↦ ap (to_be_bytes w32) (get_or-set_other words p k x 0 other) ∙ rest other
]

-- a round key put at its places
pub put_round_key : (words four w : List ℕ) (i p q r s : ℕ) → length words ≡ 44 → i < 11
    → p ≡ i → q ≡ 11 + i → r ≡ 22 + i → s ≡ 33 + i
    → ((k : ℕ) → k < 44 → k % 11 < i → to_be_bytes w32 (get_or words k 0) ≡ word_at w (4 * (k % 11) + k / 11))
    → AreRoundKey i four w
    → AreWordsTo i (set (set (set (set words p (get_or four 0 0)) q (get_or four 1 0)) r (get_or four 2 0)) s (get_or four 3 0)) w
put_round_key words four w i p q r s long hi ep eq er es held new k lt le =
    let first : List ℕ = set words p (get_or four 0 0) in
    let second : List ℕ = set first q (get_or four 1 0) in
    let third : List ℕ = set second r (get_or four 2 0) in
    let one : length first ≡ 44 = length-set words p (get_or four 0 0) ∙ long in
    let two : length second ≡ 44 = length-set first q (get_or four 1 0) ∙ one in
    let three : length third ≡ 44 = length-set second r (get_or four 2 0) ∙ two in
    put_word third w i 3 s (get_or four 3 0) k three hi (omega arith) (omega (arith, es)) (new 3 (omega arith)) (λ ns.
    put_word second w i 2 r (get_or four 2 0) k two hi (omega arith) (omega (arith, er)) (new 2 (omega arith)) (λ nr.
    put_word first w i 1 q (get_or four 1 0) k one hi (omega arith) (omega (arith, eq)) (new 1 (omega arith)) (λ nq.
    put_word words w i 0 p (get_or four 0 0) k long hi (omega arith) (omega (arith, ep)) (new 0 (omega arith)) (λ np.
    held k lt (omega (arith, lt, le, hi, ep, eq, er, es, np, nq, nr, ns))))))
