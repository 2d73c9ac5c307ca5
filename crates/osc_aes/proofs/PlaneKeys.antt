-- Round keys in planes, and words substituted in planes.
use Rattle.std.proofs.Common.{◌≡◌, ℕ, zero, suc, ◌+◌, ◌/◌, ◌*◌, ◌%◌, ◌<◌, ◌≤◌, List, [], ◌∷◌, length, drop, get_or, set, get_or-take, get_or-drop, get_or-set_other, get_or-set_same, length-drop, inl, inr, refl, ap, ap₂, ◌∙◌, sym, arith}
use Rattle.std.proofs.lemmas.Bool.{cases_eq}
use Rattle.std.proofs.lemmas.List.{length-take-le}
use Rattle.std.proofs.lemmas.List.FromFn.{fill_by_all}
use Rattle.osc_aes.specs.SubstitutionBox.{substitute}
use Rattle.osc_aes.specs.Aes128.{added_word, expanded_key, sub_word, word_at, xor_word}
use Rattle.osc_aes.specs.Views.{lane}
use Rattle.osc_aes.specs.Lanes.{AreKeysTo, block_at, block_in, state_in}
use Rattle.osc_aes.proofs.Keys.{added_word-within, expanded_key-word}
use Rattle.osc_aes.proofs.Lengths.{length-key_words, take-expanded_key}
use Rattle.osc_aes.proofs.PlaneRounds.{state-known}

-- ---- words substituted in planes

-- four bytes, each substituted
four_substituted : (word : List ℕ) → length word ≡ 4
    → substitute (get_or word 0 0) ∷ substitute (get_or word 1 0) ∷ substitute (get_or word 2 0) ∷ substitute (get_or word 3 0) ∷ [] ≡ sub_word word
four_substituted [] e = absurd (omega arith)
four_substituted (a ∷ []) e = absurd (omega arith)
four_substituted (a ∷ b ∷ []) e = absurd (omega arith)
four_substituted (a ∷ b ∷ c ∷ []) e = absurd (omega arith)
four_substituted (a ∷ b ∷ c ∷ d ∷ []) e = refl
four_substituted (a ∷ b ∷ c ∷ d ∷ more ∷ word) e = absurd (omega arith)

-- a word whose bytes are those of another, each substituted
pub sub_word-is : (word out planes substituted : List ℕ) → length word ≡ 4 → length out ≡ 4
    → ((n : ℕ) → n < 4 → lane planes (8 * n) ≡ get_or word n 0) → ((i : ℕ) → i < 32 → lane substituted i ≡ substitute (lane planes i))
    → ((n : ℕ) → n < 4 → get_or out n 0 ≡ lane substituted (8 * n)) → out ≡ sub_word word
sub_word-is word out planes substituted long same spread each gathered =
    fill_by_all (λ n. substitute (get_or word n 0)) out 4 0 same
    (λ n lt. gathered n lt ∙ each (8 * n) (omega (arith, lt)) ∙ ap substitute (spread n lt))
    ∙ four_substituted word long

-- ---- round keys, which are the blocks of an expanded key

-- a byte of a block
get_or-block : (w : List ℕ) (r m : ℕ) → m < 16 → get_or (block_at w r) m 0 ≡ get_or w (16 * r + m) 0
get_or-block w r m lt = get_or-take 16 (drop (16 * r) w) m 0 lt ∙ get_or-drop (16 * r) w m 0

-- a word of a block
word_at-block : (w : List ℕ) (r c : ℕ) → c < 4 → word_at (block_at w r) c ≡ word_at w (4 * r + c)
word_at-block w r c lt =
    let at : (j : ℕ) → j < 4 → get_or (block_at w r) (4 * c + j) 0 ≡ get_or w (4 * (4 * r + c) + j) 0 =
    λ j ltj. get_or-block w r (4 * c + j) (omega (arith, lt, ltj)) ∙ ap (λ (n : ℕ). get_or w n 0) (omega arith) in
    let first : get_or (block_at w r) (4 * c) 0 ≡ get_or w (4 * (4 * r + c)) 0 =
    get_or-block w r (4 * c) (omega (arith, lt)) ∙ ap (λ (n : ℕ). get_or w n 0) (omega arith) in
    ap₂ (λ (x : ℕ) (xs : List ℕ). x ∷ xs) first
    (ap₂ (λ (x : ℕ) (xs : List ℕ). x ∷ xs) (at 1 (omega arith))
    (ap₂ (λ (x : ℕ) (xs : List ℕ). x ∷ xs) (at 2 (omega arith)) (ap (λ (x : ℕ). x ∷ []) (at 3 (omega arith)))))

-- the bytes of four words
abbrev four_words : List ℕ → List ℕ → List ℕ → List ℕ → List ℕ
four_words a b c d =
    get_or a 0 0 ∷ get_or a 1 0 ∷ get_or a 2 0 ∷ get_or a 3 0 ∷ get_or b 0 0 ∷ get_or b 1 0 ∷ get_or b 2 0 ∷ get_or b 3 0
    ∷ get_or c 0 0 ∷ get_or c 1 0 ∷ get_or c 2 0 ∷ get_or c 3 0 ∷ get_or d 0 0 ∷ get_or d 1 0 ∷ get_or d 2 0 ∷ get_or d 3 0 ∷ []

-- the words of a block are its bytes
four_words-block : (w : List ℕ) (r : ℕ) → 16 * r + 16 ≤ length w
    → four_words (word_at w (4 * r + 0)) (word_at w (4 * r + 1)) (word_at w (4 * r + 2)) (word_at w (4 * r + 3)) ≡ block_at w r
four_words-block w r long =
    sym (ap₂ (λ (a b : List ℕ). four_words a b (word_at (block_at w r) 2) (word_at (block_at w r) 3)) (word_at-block w r 0 (omega arith)) (word_at-block w r 1 (omega arith))
    ∙ ap₂ (λ (c d : List ℕ). four_words (word_at w (4 * r + 0)) (word_at w (4 * r + 1)) c d) (word_at-block w r 2 (omega arith)) (word_at-block w r 3 (omega arith)))
    ∙ sym (fill_by_all (λ k. get_or (block_at w r) k 0) (block_at w r) 16 0
    (length-take-le 16 (drop (16 * r) w) (omega (arith, length-drop (16 * r) w, long))) (λ k lt. refl))

module _ (key : List ℕ) (r : ℕ) (long : length key ≡ 16) (lt : r < 10) where
  -- the expanded key
  abbrev w : List ℕ
  w = expanded_key key

  -- a word that begins no round key is the sum of two
  within_sum : (c : ℕ) → c < 3 → word_at w (4 * (r + 1) + (c + 1)) ≡ xor_word (word_at w (4 * r + (c + 1))) (word_at w (4 * (r + 1) + c))
  within_sum c few =
      let next : 4 * (r + 1) + (c + 1) ≡ 4 * r + (c + 1) + 4 = omega arith in
      let before : 4 * r + (c + 1) + 3 ≡ 4 * (r + 1) + c = omega arith in
      ap (word_at w) next ∙ expanded_key-word key (4 * r + (c + 1)) long (omega (arith, lt, few))
      ∙ ap (xor_word (word_at w (4 * r + (c + 1)))) (added_word-within (word_at w (4 * r + (c + 1) + 3)) (4 * r + (c + 1) + 4) (omega (arith, few))
      ∙ ap (word_at w) before)

  -- the first word of a round key
  first_sum : word_at w (4 * (r + 1) + 0) ≡ xor_word (word_at w (4 * r + 0)) (added_word (word_at w (4 * r + 3)) (4 * r + 4))
  first_sum =
      let next : 4 * (r + 1) + 0 ≡ 4 * r + 0 + 4 = omega arith in
      let before : 4 * r + 0 + 3 ≡ 4 * r + 3 = omega arith in
      let place : 4 * r + 0 + 4 ≡ 4 * r + 4 = omega arith in
      ap (word_at w) next ∙ expanded_key-word key (4 * r + 0) long (omega (arith, lt))
      ∙ ap (xor_word (word_at w (4 * r + 0))) (ap₂ (λ (i j : ℕ). added_word (word_at w i) j) before place)

  -- the next round key by its words
  pub next_key : (k w0 w1 w2 w3 added a b c d : List ℕ) → k ≡ block_at w r → w0 ≡ word_at k 0 → w1 ≡ word_at k 1 → w2 ≡ word_at k 2 → w3 ≡ word_at k 3
      → added ≡ added_word w3 (4 * r + 4) → a ≡ xor_word w0 added → b ≡ xor_word w1 a → c ≡ xor_word w2 b → d ≡ xor_word w3 c
      → four_words a b c d ≡ block_at w (r + 1)
  next_key k w0 w1 w2 w3 added a b c d ek e0 e1 e2 e3 es ea eb ec ed =
      let word : (v : List ℕ) (j : ℕ) → j < 4 → v ≡ word_at k j → v ≡ word_at w (4 * r + j) =
      λ v j ltj e. e ∙ ap (λ (x : List ℕ). word_at x j) ek ∙ word_at-block w r j ltj in
      let last : w3 ≡ word_at w (4 * r + 3) = word w3 3 (omega arith) e3 in
      let fa : a ≡ word_at w (4 * (r + 1) + 0) =
      ea ∙ ap₂ xor_word (word w0 0 (omega arith) e0) (es ∙ ap (λ (x : List ℕ). added_word x (4 * r + 4)) last) ∙ sym first_sum in
      let fb : b ≡ word_at w (4 * (r + 1) + 1) = eb ∙ ap₂ xor_word (word w1 1 (omega arith) e1) fa ∙ sym (within_sum 0 (omega arith)) in
      let fc : c ≡ word_at w (4 * (r + 1) + 2) = ec ∙ ap₂ xor_word (word w2 2 (omega arith) e2) fb ∙ sym (within_sum 1 (omega arith)) in
      let fd : d ≡ word_at w (4 * (r + 1) + 3) = ed ∙ ap₂ xor_word last fc ∙ sym (within_sum 2 (omega arith)) in
      ap₂ (λ (x y : List ℕ). four_words x y c d) fa fb
      ∙ ap₂ (λ (x y : List ℕ). four_words (word_at w (4 * (r + 1) + 0)) (word_at w (4 * (r + 1) + 1)) x y) fc fd
      ∙ four_words-block w (r + 1) (omega (arith, length-key_words key 40, long, lt))

-- round key 0 is the key
pub first_key : (key : List ℕ) → length key ≡ 16 → key ≡ block_at (expanded_key key) 0
first_key key long = sym (take-expanded_key (expanded_key key) key long refl)

-- ---- round keys in planes

-- a column that is turned right and found again
turned_again : (y column : ℕ) → column < 4 → ((column + y) % 4 + 3 * y) % 4 ≡ column
turned_again y column lt = omega (arith, lt)

-- a column that is not turned
not_turned : (x row : ℕ) → (x % 4 + 0 * row) % 4 ≡ x % 4
not_turned x row = omega arith

-- a round key whose rows are turned, in one block
turned_block : (n : ℕ) (k turned planes : List ℕ) (b : ℕ) → block_in 0 planes b ≡ turned
    → ((m : ℕ) → m < 16 → get_or turned m 0 ≡ get_or k (m % 4 + 4 * ((m / 4 + 3 * (n * (m % 4))) % 4)) 0)
    → (row column : ℕ) → row < 4 → column < 4 → state_in n planes b row column ≡ get_or k (row + 4 * column) 0
turned_block n k turned planes b packed moved row column ltr ltc =
    let y : ℕ = n * row in
    let seat : ℕ = (column + y) % 4 in
    let at : (x z : ℕ) → x < 4 → (x + 4 * z) % 4 ≡ x = λ x z lt. omega (arith, lt) in
    let over : (x z : ℕ) → x < 4 → (x + 4 * z) / 4 ≡ z = λ x z lt. omega (arith, lt) in
    let low : (x z : ℕ) → x < 4 → x + 4 * (z % 4) < 16 = λ x z lt. omega (arith, lt) in
    ap (λ (x : ℕ). lane planes (8 * row + (2 * x + b))) (sym (not_turned (column + y) row))
    ∙ state-known 0 planes turned b packed row seat ltr (omega arith) ∙ moved (row + 4 * seat) (low row (column + y) ltr)
    ∙ ap₂ (λ (r c : ℕ). get_or k (r + 4 * ((c + 3 * (n * r)) % 4)) 0) (at row seat ltr) (over row seat ltr)
    ∙ ap (λ (c : ℕ). get_or k (row + 4 * c) 0) (turned_again y column ltc)

-- and in both
pub turned_key : (n : ℕ) (k turned planes : List ℕ) → block_in 0 planes 0 ≡ turned → block_in 0 planes 1 ≡ turned
    → ((m : ℕ) → m < 16 → get_or turned m 0 ≡ get_or k (m % 4 + 4 * ((m / 4 + 3 * (n * (m % 4))) % 4)) 0)
    → (b row column : ℕ) → b < 2 → row < 4 → column < 4 → state_in n planes b row column ≡ get_or k (row + 4 * column) 0
turned_key n k turned planes first second moved zero row column few = turned_block n k turned planes 0 first moved row column
turned_key n k turned planes first second moved (suc zero) row column few = turned_block n k turned planes 1 second moved row column
turned_key n k turned planes first second moved (suc (suc b)) row column few = absurd (omega arith)

-- one more of them
pub one_more_key : (n : ℕ) (keys : List (List ℕ)) (w k planes : List ℕ) → n < length keys → k ≡ block_at w n
    → ((b row column : ℕ) → b < 2 → row < 4 → column < 4 → state_in n planes b row column ≡ get_or k (row + 4 * column) 0)
    → AreKeysTo n keys w → AreKeysTo (n + 1) (set keys n planes) w
one_more_key n keys w k planes room e held before r lt b row column few ltr ltc = elim (cases_eq r n) [
  | inl same ↦
      ap₂ (λ (x : List ℕ) (m : ℕ). state_in m x b row column) (ap (λ (j : ℕ). get_or (set keys n planes) j []) same ∙ get_or-set_same keys n planes [] room) same
      ∙ held b row column few ltr ltc ∙ ap (λ (x : List ℕ). get_or x (row + 4 * column) 0) e ∙ get_or-block w n (row + 4 * column) (omega (arith, ltr, ltc))
      ∙ ap (λ (j : ℕ). get_or w (16 * j + (row + 4 * column)) 0) (sym same)
  | inr other ↦
      ap (λ (x : List ℕ). state_in r x b row column) (get_or-set_other keys n r planes [] other)
      ∙ before r (omega (arith, lt, other)) b row column few ltr ltc
]
