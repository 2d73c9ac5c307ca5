-- A word of the expanded key depends on the words before it.
use Rattle.std.proofs.Common.{◌≡◌, ℕ, zero, suc, ◌+◌, ◌-◌, ◌*◌, ◌%◌, ◌<◌, ◌≤◌, ◌==◌, ◌++◌, List, [], ◌∷◌, length, get_or, take, false, inl, inr, refl, ap, ap₂, ◌∙◌, sym, add-one, arith, get_or-take}
use Rattle.std.proofs.lemmas.Bool.{cases_lt, ne_eqb}
use Rattle.std.proofs.lemmas.List.{get_or-append-add, take_all, take-append-le}
use Rattle.osc_aes.specs.Aes128.{added_word, expanded_key, xor_word, key_words, next_word, word_at}
use Rattle.osc_aes.proofs.Lengths.{length-key_words, take-key_words}

-- a word of a front is that word
word_at-take : (w : List ℕ) (m i : ℕ) → 4 * i + 4 ≤ m → word_at (take m w) i ≡ word_at w i
word_at-take w m i le =
    rw (
      get_or-take m w (4 * i) 0 (omega arith),
      get_or-take m w (4 * i + 1) 0 (omega arith),
      get_or-take m w (4 * i + 2) 0 (omega arith),
      get_or-take m w (4 * i + 3) 0 (omega arith),
    )

-- the next word looks only at the words before it
next_word-take : (w : List ℕ) (m i : ℕ) → 4 ≤ i → 4 * i ≤ m → next_word (take m w) i ≡ next_word w i
next_word-take w m i low le =
    ap₂ (λ (u v : List ℕ). xor_word u (added_word v i)) (word_at-take w m (i - 4) (omega arith)) (word_at-take w m (i - 1) (omega arith))

-- one more word
pub key_words_more : (key w next : List ℕ) (n : ℕ) → take (16 + 4 * n) w ≡ key_words key n → next ≡ next_word w (n + 4)
    → take (16 + 4 * n) w ++ next ≡ key_words key (n + 1)
unfolding key_words
key_words_more key w next n e h =
    let same : next ≡ next_word (key_words key n) (n + 4) =
    h ∙ sym (next_word-take w (16 + 4 * n) (n + 4) (omega arith) (omega arith)) ∙ ap (λ (x : List ℕ). next_word x (n + 4)) e in
    rw (add-one, e, same) refl

-- fewer words are a front of more
take-key_words-front : (key : List ℕ) (n m : ℕ) → length key ≡ 16 → n ≤ m
    → take (16 + 4 * n) (key_words key m) ≡ key_words key n
unfolding key_words
take-key_words-front key n zero long le =
    let none : n ≡ 0 = omega arith in rw none (take_all 16 key (omega (arith, long)))
take-key_words-front key n (suc m) long le = elim (cases_lt m n) [
  | inl most ↦
      let all : n ≡ suc m = omega (arith, most, le) in
      rw all (take_all (16 + 4 * suc m) (key_words key (suc m)) (omega (arith, length-key_words key (suc m), long)))
  | inr fewer ↦
      take-append-le (16 + 4 * n) (key_words key m) (next_word (key_words key m) (m + 4))
      (omega (arith, length-key_words key m, long, fewer))
      ∙ take-key_words-front key n m long fewer
]

-- a word that is put at the end
word_at-append : (w : List ℕ) (a b c d i : ℕ) → length w ≡ 4 * i → word_at (w ++ (a ∷ b ∷ c ∷ d ∷ [])) i ≡ a ∷ b ∷ c ∷ d ∷ []
word_at-append w a b c d i long =
    let tail : List ℕ = a ∷ b ∷ c ∷ d ∷ [] in
    let at : (j : ℕ) → get_or (w ++ tail) (4 * i + j) 0 ≡ get_or tail j 0 =
    λ j. ap (λ (m : ℕ). get_or (w ++ tail) (m + j) 0) (sym long) ∙ get_or-append-add w tail j 0 in
    let first : 4 * i ≡ 4 * i + 0 = omega arith in
    ap₂ (λ (x : ℕ) (xs : List ℕ). x ∷ xs) (ap (λ (m : ℕ). get_or (w ++ tail) m 0) first ∙ at 0)
    (ap₂ (λ (x : ℕ) (xs : List ℕ). x ∷ xs) (at 1)
    (ap₂ (λ (x : ℕ) (xs : List ℕ). x ∷ xs) (at 2) (ap (λ (x : ℕ). x ∷ []) (at 3))))

-- the recurrence within an expanded key
pub expanded_key-word : (key : List ℕ) (n : ℕ) → length key ≡ 16 → n < 40
    → word_at (expanded_key key) (n + 4)
    ≡ xor_word (word_at (expanded_key key) n) (added_word (word_at (expanded_key key) (n + 3)) (n + 4))
unfolding key_words
expanded_key-word key n long lt =
    let w : List ℕ = expanded_key key in
    let before : take (16 + 4 * n) w ≡ key_words key n = take-key_words-front key n 40 long (omega (arith, lt)) in
    let after : take (16 + 4 * suc n) w ≡ key_words key (suc n) = take-key_words-front key (suc n) 40 long (omega (arith, lt)) in
    let old : n + 4 - 4 ≡ n = omega arith in
    let last : n + 4 - 1 ≡ n + 3 = omega arith in
    sym (word_at-take w (16 + 4 * suc n) (n + 4) (omega arith))
    ∙ ap (λ (x : List ℕ). word_at x (n + 4)) after
    ∙ word_at-append (key_words key n) _ _ _ _ (n + 4) (length-key_words key n ∙ omega (arith, long))
    ∙ ap (λ (x : List ℕ). next_word x (n + 4)) (sym before)
    ∙ next_word-take w (16 + 4 * n) (n + 4) (omega arith) (omega arith)
    ∙ ap₂ (λ (i j : ℕ). xor_word (word_at w i) (added_word (word_at w j) (n + 4))) old last

-- the words of the key within an expanded key
pub expanded_key-key : (key : List ℕ) (i : ℕ) → length key ≡ 16 → i < 4 → word_at key i ≡ word_at (expanded_key key) i
expanded_key-key key i long lt =
    sym (ap (λ (x : List ℕ). word_at x i) (take-key_words key 16 40 (sym long)))
    ∙ word_at-take (expanded_key key) 16 i (omega (arith, lt))

-- what is added to a word that begins no round key is the last word
pub added_word-within : (last : List ℕ) (i : ℕ) → 0 < i % 4 → added_word last i ≡ last
added_word-within last i within =
    let test : (i % 4 == 0) ≡ false = ne_eqb (i % 4) 0 (λ e. absurd (omega (arith, e, within))) in
    rw test refl
