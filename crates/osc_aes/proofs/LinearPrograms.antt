-- Programs of shifts, masks and sums on words: each bit of a value is the sum of some bits of the inputs, and which they
-- are is computed.
use Rattle.std.proofs.Common.{◌≡◌, ℕ, zero, suc, ◌+◌, ◌-◌, ◌*◌, ◌/◌, ◌%◌, ◌^◌, ◌<◌, ◌≤◌, List, [], ◌∷◌, refl, ap, ap₂, ◌∙◌, sym, get_or, take, min, bit_and, bit_xor, inl, inr, arith, get_or-take}
use Rattle.std.specs.Int.{bit_at}
use Rattle.std.specs.Int.Bits.{xor_zero_l, xor_zero_r}
use Rattle.std.proofs.lemmas.Bool.{cases_lt}
use Rattle.std.proofs.lemmas.Nat.{shr-shr, pow_pos}
use Rattle.std.proofs.lemmas.Nat.Bits.{bit_at_and, bit_at_xor, bit_at-lt, bit_at-zero, bit_at-suc, bit_at_lowest, bit_at-pow_same, bit_at-pow_other, bit_at_above, bit_at_cat_low, bit_at_cat_high}

-- a step on values so far, the newest of which is 0: the sum of two, one shifted down or up by k bits, one under a mask
pub data Step : Type 0 where
  Sum : ℕ → ℕ → Step
  Down : ℕ → ℕ → Step
  Up : ℕ → ℕ → Step
  Under : ℕ → ℕ → Step

-- the word that a step makes
abbrev pub word : Step → List ℕ → ℕ
word (Sum i j) vs = bit_xor (get_or vs i 0) (get_or vs j 0)
word (Down i k) vs = get_or vs i 0 / 2 ^ k
word (Up i k) vs = get_or vs i 0 * 2 ^ k % 2 ^ 32
word (Under i m) vs = bit_and (get_or vs i 0) m

-- all words, the newest first
abbrev pub words : List Step → List ℕ → List ℕ
words [] vs = vs
words (s ∷ ss) vs = let v = word s vs in words ss (v ∷ vs)

-- ---- which bits of the inputs are summed in each bit of a value: a number whose bit j stands for input j

-- the sum of two words by their inputs
abbrev plus : List ℕ → List ℕ → List ℕ
plus [] ys = ys
plus (x ∷ xs) [] = x ∷ xs
plus (x ∷ xs) (y ∷ ys) = bit_xor x y ∷ plus xs ys

-- bits without inputs before those of a word
abbrev zeros_before : ℕ → List ℕ → List ℕ
zeros_before zero xs = xs
zeros_before (suc k) xs = 0 ∷ zeros_before k xs

-- the inputs of a word under a mask
abbrev kept : ℕ → List ℕ → List ℕ
kept m [] = []
kept m (x ∷ xs) = m % 2 * x ∷ kept (m / 2) xs

-- the inputs of a word without its lowest bits
abbrev cut : ℕ → List ℕ → List ℕ
cut zero xs = xs
cut (suc k) [] = []
cut (suc k) (x ∷ xs) = cut k xs

-- the inputs of the word that a step makes, bit by bit
abbrev pub masks : Step → List (List ℕ) → List ℕ
masks (Sum i j) ms = plus (get_or ms i []) (get_or ms j [])
masks (Down i k) ms = cut k (get_or ms i [])
masks (Up i k) ms = take 32 (zeros_before k (get_or ms i []))
masks (Under i m) ms = kept m (get_or ms i [])

-- those of all words, the newest first
abbrev pub all_masks : List Step → List (List ℕ) → List (List ℕ)
all_masks [] ms = ms
all_masks (s ∷ ss) ms = let m = masks s ms in all_masks ss (m ∷ ms)

-- a bit of a sum
get_or-plus : (xs ys : List ℕ) (p : ℕ) → get_or (plus xs ys) p 0 ≡ bit_xor (get_or xs p 0) (get_or ys p 0)
get_or-plus [] ys p = sym (xor_zero_l (get_or ys p 0))
get_or-plus (x ∷ xs) [] p = sym (xor_zero_r (get_or (x ∷ xs) p 0))
get_or-plus (x ∷ xs) (y ∷ ys) zero = refl
get_or-plus (x ∷ xs) (y ∷ ys) (suc p) = get_or-plus xs ys p

-- a bit of a word shifted down
get_or-cut : (k : ℕ) (xs : List ℕ) (p : ℕ) → get_or (cut k xs) p 0 ≡ get_or xs (k + p) 0
get_or-cut zero xs p = ap (λ (n : ℕ). get_or xs n 0) (omega arith)
get_or-cut (suc k) [] p = refl
get_or-cut (suc k) (x ∷ xs) p =
    let e : suc k + p ≡ suc (k + p) = omega arith in
    get_or-cut k xs p ∙ ap (λ (n : ℕ). get_or (x ∷ xs) n 0) (sym e)

-- a bit below those of a word shifted up
get_or-zeros_low : (k : ℕ) (xs : List ℕ) (p : ℕ) → p < k → get_or (zeros_before k xs) p 0 ≡ 0
get_or-zeros_low zero xs p lt = absurd (omega arith)
get_or-zeros_low (suc k) xs zero lt = refl
get_or-zeros_low (suc k) xs (suc p) lt = get_or-zeros_low k xs p (omega arith)

-- a bit of a word shifted up
get_or-zeros_high : (k : ℕ) (xs : List ℕ) (p : ℕ) → k ≤ p → get_or (zeros_before k xs) p 0 ≡ get_or xs (p - k) 0
get_or-zeros_high zero xs p le = ap (λ (n : ℕ). get_or xs n 0) (omega arith)
get_or-zeros_high (suc k) xs zero le = absurd (omega arith)
get_or-zeros_high (suc k) xs (suc p) le =
    let e : p - k ≡ suc p - suc k = omega arith in
    get_or-zeros_high k xs p (omega arith) ∙ ap (λ (n : ℕ). get_or xs n 0) e

-- a bit of a word under a mask
get_or-kept : (m : ℕ) (xs : List ℕ) (p : ℕ) → get_or (kept m xs) p 0 ≡ bit_at m p * get_or xs p 0
get_or-kept m [] p = omega arith
get_or-kept m (x ∷ xs) zero = ap (λ (b : ℕ). b * x) (sym (bit_at_lowest m))
get_or-kept m (x ∷ xs) (suc p) = get_or-kept (m / 2) xs p ∙ ap (λ (b : ℕ). b * get_or xs p 0) (sym (bit_at-suc m p))

-- what is cut off has no inputs
take-past : (n : ℕ) (xs : List ℕ) (p : ℕ) → n ≤ p → get_or (take n xs) p 0 ≡ 0
take-past zero xs p le = refl
take-past (suc n) [] p le = refl
take-past (suc n) (x ∷ xs) zero le = absurd (omega arith)
take-past (suc n) (x ∷ xs) (suc p) le = take-past n xs p (omega arith)

-- ---- bits of shifted words

-- a bit of a word shifted down
pub bit_at-down : (w k p : ℕ) → bit_at (w / 2 ^ k) p ≡ bit_at w (k + p)
bit_at-down w k p = ap (λ (n : ℕ). n % 2) (shr-shr w k p)

-- a bit below 32 of what is left in a word
bit_at-mod_low : (n p : ℕ) → p < 32 → bit_at (n % 2 ^ 32) p ≡ bit_at n p
bit_at-mod_low n p lt =
    let e : n / 2 ^ 32 * 2 ^ 32 + n % 2 ^ 32 ≡ n = omega arith in
    sym (bit_at_cat_low (n / 2 ^ 32) 32 (n % 2 ^ 32) p lt) ∙ ap (λ (x : ℕ). bit_at x p) e

-- no bit above is left in a word
bit_at-mod_high : (n p : ℕ) → 32 ≤ p → bit_at (n % 2 ^ 32) p ≡ 0
bit_at-mod_high n p le = bit_at_above (n % 2 ^ 32) 32 p (omega arith) le

-- a bit below those of a word shifted up
bit_at-up_low : (w k p : ℕ) → p < k → bit_at (w * 2 ^ k) p ≡ 0
bit_at-up_low w k p lt =
    let e : w * 2 ^ k ≡ w * 2 ^ k + 0 = omega arith in
    ap (λ (x : ℕ). bit_at x p) e ∙ bit_at_cat_low w k 0 p lt ∙ bit_at-zero p

-- a bit of a word shifted up
bit_at-up_high : (w k p : ℕ) → 0 < 2 ^ k → k ≤ p → bit_at (w * 2 ^ k) p ≡ bit_at w (p - k)
bit_at-up_high w k p pos le =
    let e : w * 2 ^ k ≡ w * 2 ^ k + 0 = omega arith in
    ap (λ (x : ℕ). bit_at x p) e ∙ bit_at_cat_high w k 0 p pos le

-- ---- the sum of the inputs that a mask names, of n inputs

-- the sum modulo 2 of those of the n inputs that a mask names
pub sum_of : (ℕ → ℕ) → ℕ → ℕ → ℕ
sum_of src zero m = 0
sum_of src (suc n) m = (sum_of src n m + bit_at m n * src n) % 2

module _ (src : ℕ → ℕ) (low : (j : ℕ) → src j < 2) where
  -- a term that is 0
  no_term : (s : ℕ) → (0 + 0 * s) % 2 ≡ 0
  no_term s = omega arith

  -- the mask of no input
  pub sum_of-zero : (n : ℕ) → sum_of src n 0 ≡ 0
  unfolding sum_of
  sum_of-zero zero = refl
  sum_of-zero (suc n) = ap₂ (λ (x y : ℕ). (x + y * src n) % 2) (sum_of-zero n) (bit_at-zero n) ∙ no_term (src n)

  -- two sums of two, one term of each scaled by a bit
  mod_sums : (A B p q s : ℕ) → s < 2 → ((A + B) % 2 + (p + q) % 2 * s) % 2 ≡ ((A + p * s) % 2 + (B + q * s) % 2) % 2
  mod_sums A B p q zero lt = omega arith
  mod_sums A B p q (suc zero) lt = omega arith
  mod_sums A B p q (suc (suc s)) lt = absurd (omega arith)

  -- the sum of two masks
  sum_of-xor : (n a b : ℕ) → sum_of src n (bit_xor a b) ≡ (sum_of src n a + sum_of src n b) % 2
  unfolding sum_of
  sum_of-xor zero a b = refl
  sum_of-xor (suc n) a b =
      ap₂ (λ (x y : ℕ). (x + y * src n) % 2) (sum_of-xor n a b) (bit_at_xor a b n)
      ∙ mod_sums (sum_of src n a) (sum_of src n b) (bit_at a n) (bit_at b n) (src n) (low n)

  -- a sum is a bit
  sum_of-lt : (n m : ℕ) → sum_of src n m < 2
  unfolding sum_of
  sum_of-lt zero m = omega arith
  sum_of-lt (suc n) m = omega arith

  -- a bit times a mask
  sum_of-times : (n b m : ℕ) → b < 2 → min (sum_of src n m) b ≡ sum_of src n (b * m)
  sum_of-times n zero m lt =
      let none : 0 * m ≡ 0 = omega arith in
      let left : min (sum_of src n m) 0 ≡ 0 = omega arith in
      left ∙ sym (sum_of-zero n) ∙ ap (sum_of src n) (sym none)
  sum_of-times n (suc zero) m lt =
      let one : m ≡ 1 * m = omega arith in
      let left : min (sum_of src n m) 1 ≡ sum_of src n m = omega (arith, sum_of-lt n m) in
      left ∙ ap (sum_of src n) one
  sum_of-times n (suc (suc b)) m lt = absurd (omega arith)

  -- the mask of an input past the last
  sum_of-past : (n j : ℕ) → n ≤ j → sum_of src n (2 ^ j) ≡ 0
  unfolding sum_of
  sum_of-past zero j le = refl
  sum_of-past (suc n) j le =
      ap₂ (λ (x y : ℕ). (x + y * src n) % 2) (sum_of-past n j (omega arith)) (bit_at-pow_other j n (λ e. absurd (omega (arith, e, le))))
      ∙ no_term (src n)

  -- the mask of one input
  pub sum_of-one : (n j : ℕ) → j < n → sum_of src n (2 ^ j) ≡ src j
  unfolding sum_of
  sum_of-one zero j lt = absurd (omega arith)
  sum_of-one (suc n) j lt = elim (cases_lt j n) [
    | inl below ↦
        ap₂ (λ (x y : ℕ). (x + y * src n) % 2) (sum_of-one n j below) (bit_at-pow_other j n (λ e. absurd (omega (arith, e, below))))
        ∙ (let h = low j in omega (arith, h))
    | inr above ↦
        let same : n ≡ j = omega (arith, above, lt) in
        ap₂ (λ (x y : ℕ). (x + y * src n) % 2) (sum_of-past n j (omega (arith, same))) (ap (bit_at (2 ^ j)) same ∙ bit_at-pow_same j)
        ∙ (let h = low n in omega (arith, h)) ∙ ap src same
  ]

  module _ (n : ℕ) where
    -- each bit of a word is the sum that the masks name
    abbrev pub Means : ℕ → List ℕ → Type 0
    Means w ms = (p : ℕ) → bit_at w p ≡ sum_of src n (get_or ms p 0)

    -- and so of all words
    abbrev pub AllMean : List ℕ → List (List ℕ) → Type 0
    AllMean vs mss = (k : ℕ) → Means (get_or vs k 0) (get_or mss k [])

    -- a step keeps that
    step-means : (s : Step) (vs : List ℕ) (mss : List (List ℕ)) → AllMean vs mss → Means (word s vs) (masks s mss)
    step-means (Sum i j) vs mss h p =
        bit_at_xor (get_or vs i 0) (get_or vs j 0) p ∙ ap₂ (λ (x y : ℕ). (x + y) % 2) (h i p) (h j p)
        ∙ sym (ap (sum_of src n) (get_or-plus (get_or mss i []) (get_or mss j []) p) ∙ sum_of-xor n _ _)
    step-means (Down i k) vs mss h p =
        bit_at-down (get_or vs i 0) k p ∙ h i (k + p) ∙ ap (sum_of src n) (sym (get_or-cut k (get_or mss i []) p))
    step-means (Up i k) vs mss h p =
        let w : ℕ = get_or vs i 0 in
        let zs : List ℕ = zeros_before k (get_or mss i []) in
        elim (cases_lt p 32) [
          | inl lt ↦
              bit_at-mod_low (w * 2 ^ k) p lt
              ∙ (elim (cases_lt p k) [
                | inl below ↦ bit_at-up_low w k p below ∙ sym (sum_of-zero n) ∙ ap (sum_of src n) (sym (get_or-zeros_low k (get_or mss i []) p below))
                | inr above ↦ bit_at-up_high w k p (pow_pos k) above ∙ h i (p - k) ∙ ap (sum_of src n) (sym (get_or-zeros_high k (get_or mss i []) p above))
              ])
              ∙ ap (sum_of src n) (sym (get_or-take 32 zs p 0 lt))
          | inr past ↦ bit_at-mod_high (w * 2 ^ k) p past ∙ sym (ap (sum_of src n) (take-past 32 zs p past) ∙ sum_of-zero n)
        ]
    step-means (Under i m) vs mss h p =
        bit_at_and (get_or vs i 0) m p ∙ ap (λ (x : ℕ). min x (bit_at m p)) (h i p)
        ∙ sum_of-times n (bit_at m p) (get_or (get_or mss i []) p 0) (bit_at-lt m p)
        ∙ ap (sum_of src n) (sym (get_or-kept m (get_or mss i []) p))

    -- after a program too
    pub program-means : (ss : List Step) (vs : List ℕ) (mss : List (List ℕ)) → AllMean vs mss → AllMean (words ss vs) (all_masks ss mss)
    program-means [] vs mss h = h
    program-means (s ∷ ss) vs mss h = program-means ss (word s vs ∷ vs) (masks s mss ∷ mss) (next s vs mss h)
      where
        next : (s : Step) (vs : List ℕ) (mss : List (List ℕ)) → AllMean vs mss → AllMean (word s vs ∷ vs) (masks s mss ∷ mss)
        next s vs mss h zero = step-means s vs mss h
        next s vs mss h (suc k) = h k
