-- Words turned into planes and back: each exchange of bits moves them, and where to is computed.
use Rattle.std.proofs.Common.{◌≡◌, ℕ, zero, suc, ◌+◌, ◌*◌, ◌/◌, ◌%◌, ◌^◌, ◌<◌, List, [], ◌∷◌, ◌++◌, length, refl, ap, ap₂, ◌∙◌, sym, get_or, map, inl, inr, arith}
use Rattle.std.specs.Int.{bit_at}
use Rattle.std.specs.List.{range_with_len}
use Rattle.std.proofs.lemmas.Bool.{cases_lt}
use Rattle.std.proofs.lemmas.Nat.Bits.{bit_at-lt, bit_at-zero, bit_at_above}
use Rattle.std.proofs.lemmas.List.{get_or_past}
use Rattle.std.proofs.lemmas.List.FromFn.{get_or-map-range_with_len}
use Rattle.osc_aes.specs.Lanes.{pairs_exchanged}
use Rattle.osc_aes.proofs.LinearPrograms.{Step, Sum, Down, Up, Under, words, all_masks, sum_of, sum_of-zero, sum_of-one, Means, AllMean, program-means}

-- the steps by which two words exchange bits: the first stands at 0 afterwards, the second at 2
abbrev exchange_steps : ℕ → ℕ → List Step
exchange_steps k mask = Down 0 k ∷ Sum 0 2 ∷ Under 0 mask ∷ Sum 4 0 ∷ Up 1 k ∷ Sum 5 0 ∷ []

-- the inputs in the bits of two words that have exchanged bits
abbrev exchanged_masks : List ℕ → List ℕ → ℕ → ℕ → List (List ℕ)
exchanged_masks x y k mask =
    get_or (all_masks (exchange_steps k mask) (x ∷ y ∷ [])) 0 [] ∷ get_or (all_masks (exchange_steps k mask) (x ∷ y ∷ [])) 2 [] ∷ []

-- the inputs in the bits of eight words whose pairs have exchanged bits
abbrev pairs_masks : List (List ℕ) → ℕ → ℕ → List (List ℕ)
pairs_masks ms k mask =
    exchanged_masks (get_or ms 0 []) (get_or ms 1 []) k mask ++ (exchanged_masks (get_or ms 2 []) (get_or ms 3 []) k mask
    ++ (exchanged_masks (get_or ms 4 []) (get_or ms 5 []) k mask ++ exchanged_masks (get_or ms 6 []) (get_or ms 7 []) k mask))

-- eight values in another order
abbrev pub chosen : {A : Type 0} → A → List A → (k0 k1 k2 k3 k4 k5 k6 k7 : ℕ) → List A
chosen none xs k0 k1 k2 k3 k4 k5 k6 k7 =
    get_or xs k0 none ∷ get_or xs k1 none ∷ get_or xs k2 none ∷ get_or xs k3 none
    ∷ get_or xs k4 none ∷ get_or xs k5 none ∷ get_or xs k6 none ∷ get_or xs k7 none ∷ []

-- each bit of word k by itself
abbrev row : ℕ → List ℕ
row k = map (λ p. 2 ^ (32 * k + p)) (range_with_len 0 32)

-- each bit of eight words by itself
abbrev rows : List (List ℕ)
rows = map row (range_with_len 0 8)

-- ---- the inputs of eight words, after exchanges

-- after those that transpose
abbrev across_masks : List (List ℕ)
across_masks =
    let m1 = chosen [] (pairs_masks rows 1 0x55555555) 0 2 1 3 4 6 5 7 in
    let m2 = chosen [] (pairs_masks m1 2 0x33333333) 0 4 2 6 1 5 3 7 in
    chosen [] (pairs_masks m2 4 0x0f0f0f0f) 0 2 4 6 1 3 5 7

-- bit i of word t is bit t of a byte of word i % 8
across_values : map (λ t. get_or across_masks t []) (range_with_len 0 8) ≡ map (λ t. map (λ i. 2 ^ (32 * (i % 8) + (8 * (i / 8) + t))) (range_with_len 0 32)) (range_with_len 0 8)
across_values = refl

-- after those of rows 1 and 3
abbrev back_masks : List (List ℕ)
back_masks = chosen [] (pairs_masks (chosen [] rows 0 4 1 5 2 6 3 7) 0 0xff00ff00) 0 2 4 6 1 3 5 7

-- bit p of word k is one of the word of a column further on
back_values : map (λ k. get_or back_masks k []) (range_with_len 0 8) ≡ map (λ k. map (λ p. 2 ^ (32 * (2 * ((k / 2 + 2 * (p / 8)) % 4) + k % 2) + p)) (range_with_len 0 32)) (range_with_len 0 8)
back_values = refl

-- the steps by which every eighth lane of planes becomes a byte of a number
abbrev pub gather_steps : List Step
gather_steps =
    Under 0 0x01010101 ∷ Under 2 0x01010101 ∷ Up 0 1 ∷ Sum 2 0 ∷ Under 6 0x01010101 ∷ Up 0 2 ∷ Sum 2 0 ∷ Under 10 0x01010101 ∷ Up 0 3 ∷ Sum 2 0
    ∷ Under 14 0x01010101 ∷ Up 0 4 ∷ Under 17 0x01010101 ∷ Up 0 5 ∷ Sum 2 0 ∷ Under 21 0x01010101 ∷ Up 0 6 ∷ Sum 2 0
    ∷ Under 25 0x01010101 ∷ Up 0 7 ∷ Sum 2 0 ∷ Sum 11 0 ∷ []

-- bit p of the number is one of plane p % 8
gather_masks : get_or (all_masks gather_steps rows) 0 [] ≡ map (λ p. 2 ^ (32 * (p % 8) + 8 * (p / 8))) (range_with_len 0 32)
gather_masks = refl

-- after one of each pair with the other
abbrev paired_masks : List (List ℕ)
paired_masks = pairs_masks rows 1 0x55555555

-- bit i of word t is one of a word of its pair
paired_values : map (λ t. get_or paired_masks t []) (range_with_len 0 8) ≡ map (λ t. map (λ i. 2 ^ (32 * (2 * (t / 2) + i % 2) + (2 * (i / 2) + t % 2))) (range_with_len 0 32)) (range_with_len 0 8)
paired_values = refl

-- ---- what moves, where the inputs are the 256 bits of eight words

module _ (ws : List ℕ) (eight : length ws ≡ 8) (fits : (k : ℕ) → get_or ws k 0 < 2 ^ 32) where
  -- input j
  abbrev bit : ℕ → ℕ
  bit j = bit_at (get_or ws (j / 32) 0) (j % 32)

  -- an input is a bit
  bit-lt : (j : ℕ) → bit j < 2
  bit-lt j = bit_at-lt (get_or ws (j / 32) 0) (j % 32)

  -- each bit of a word is the sum of the inputs that a list of numbers names
  abbrev HasInputs : ℕ → List ℕ → Type 0
  HasInputs = Means bit bit-lt 256

  -- and so of all words
  abbrev HaveInputs : List ℕ → List (List ℕ) → Type 0
  HaveInputs = AllMean bit bit-lt 256

  -- each bit of word k is an input
  row-means : (k : ℕ) → k < 8 → HasInputs (get_or ws k 0) (row k)
  row-means k lt p = elim (cases_lt p 32) [
    | inl within ↦
        let word : k ≡ (32 * k + p) / 32 = omega arith in
        let seat : p ≡ (32 * k + p) % 32 = omega arith in
        ap₂ (λ (x y : ℕ). bit_at (get_or ws x 0) y) word seat
        ∙ sym (ap (sum_of bit 256) (get_or-map-range_with_len (λ p. 2 ^ (32 * k + p)) 0 32 p p 0 within (omega arith))
        ∙ sum_of-one bit bit-lt 256 (32 * k + p) (omega arith))
    | inr past ↦
        bit_at_above (get_or ws k 0) 32 p (fits k) past
        ∙ sym (ap (sum_of bit 256) (get_or_past (row k) p 0 past) ∙ sum_of-zero bit bit-lt 256)
  ]

  -- so of all words
  rows-mean : HaveInputs ws rows
  rows-mean k p = elim (cases_lt k 8) [
    | inl lt ↦ row-means k lt p ∙ ap (λ (ms : List ℕ). sum_of bit 256 (get_or ms p 0)) (sym (get_or-map-range_with_len row 0 8 k k [] lt (omega arith)))
    | inr past ↦
        ap (λ (x : ℕ). bit_at x p) (get_or_past ws k 0 (omega (arith, eight, past))) ∙ bit_at-zero p
        ∙ sym (ap (λ (ms : List ℕ). sum_of bit 256 (get_or ms p 0)) (get_or_past rows k [] past) ∙ sum_of-zero bit bit-lt 256)
  ]

  -- no word has no inputs
  none-means : HasInputs 0 []
  none-means p = bit_at-zero p ∙ sym (sum_of-zero bit bit-lt 256)

  -- what is known of each of eight words is known of all
  eight-mean : (w0 w1 w2 w3 w4 w5 w6 w7 : ℕ) (m0 m1 m2 m3 m4 m5 m6 m7 : List ℕ)
      → HasInputs w0 m0 → HasInputs w1 m1 → HasInputs w2 m2 → HasInputs w3 m3
      → HasInputs w4 m4 → HasInputs w5 m5 → HasInputs w6 m6 → HasInputs w7 m7
      → HaveInputs (w0 ∷ w1 ∷ w2 ∷ w3 ∷ w4 ∷ w5 ∷ w6 ∷ w7 ∷ []) (m0 ∷ m1 ∷ m2 ∷ m3 ∷ m4 ∷ m5 ∷ m6 ∷ m7 ∷ [])
  eight-mean w0 w1 w2 w3 w4 w5 w6 w7 m0 m1 m2 m3 m4 m5 m6 m7 h0 h1 h2 h3 h4 h5 h6 h7 = at
    where
      at : HaveInputs (w0 ∷ w1 ∷ w2 ∷ w3 ∷ w4 ∷ w5 ∷ w6 ∷ w7 ∷ []) (m0 ∷ m1 ∷ m2 ∷ m3 ∷ m4 ∷ m5 ∷ m6 ∷ m7 ∷ [])
      at zero = h0
      at (suc zero) = h1
      at (suc (suc zero)) = h2
      at (suc (suc (suc zero))) = h3
      at (suc (suc (suc (suc zero)))) = h4
      at (suc (suc (suc (suc (suc zero))))) = h5
      at (suc (suc (suc (suc (suc (suc zero)))))) = h6
      at (suc (suc (suc (suc (suc (suc (suc zero))))))) = h7
      at (suc (suc (suc (suc (suc (suc (suc (suc k)))))))) = none-means

  -- both words of an exchange
  exchange-means : (x y k mask : ℕ) (mx my : List ℕ) → HasInputs x mx → HasInputs y my
      → (at : ℕ) → HasInputs (get_or (words (exchange_steps k mask) (x ∷ y ∷ [])) at 0) (get_or (all_masks (exchange_steps k mask) (mx ∷ my ∷ [])) at [])
  exchange-means x y k mask mx my hx hy = program-means bit bit-lt 256 (exchange_steps k mask) (x ∷ y ∷ []) (mx ∷ my ∷ []) both
    where
      both : HaveInputs (x ∷ y ∷ []) (mx ∷ my ∷ [])
      both zero = hx
      both (suc zero) = hy
      both (suc (suc j)) = none-means

  -- eight words after an exchange
  pairs-mean : (k mask : ℕ) (vs next : List ℕ) (ms : List (List ℕ)) → HaveInputs vs ms → next ≡ pairs_exchanged vs k mask
      → HaveInputs next (pairs_masks ms k mask)
  pairs-mean k mask vs next ms h e j p =
      let pair : (a b at : ℕ) → HasInputs (get_or (words (exchange_steps k mask) (get_or vs a 0 ∷ get_or vs b 0 ∷ [])) at 0) (get_or (all_masks (exchange_steps k mask) (get_or ms a [] ∷ get_or ms b [] ∷ [])) at []) =
      λ a b at. exchange-means (get_or vs a 0) (get_or vs b 0) k mask (get_or ms a []) (get_or ms b []) (h a) (h b) at in
      ap (λ (xs : List ℕ). bit_at (get_or xs j 0) p) e
      ∙ eight-mean _ _ _ _ _ _ _ _ _ _ _ _ _ _ _ _ (pair 0 1 0) (pair 0 1 2) (pair 2 3 0) (pair 2 3 2) (pair 4 5 0) (pair 4 5 2) (pair 6 7 0) (pair 6 7 2) j p

  -- eight words in another order
  chosen-mean : (vs : List ℕ) (ms : List (List ℕ)) → HaveInputs vs ms → (k0 k1 k2 k3 k4 k5 k6 k7 : ℕ)
      → HaveInputs (chosen 0 vs k0 k1 k2 k3 k4 k5 k6 k7) (chosen [] ms k0 k1 k2 k3 k4 k5 k6 k7)
  chosen-mean vs ms h k0 k1 k2 k3 k4 k5 k6 k7 = eight-mean _ _ _ _ _ _ _ _ _ _ _ _ _ _ _ _ (h k0) (h k1) (h k2) (h k3) (h k4) (h k5) (h k6) (h k7)

  -- words each of whose bits has one input hold those inputs
  moves : (vs : List ℕ) (ms : List (List ℕ)) (plane seat : ℕ → ℕ → ℕ) → HaveInputs vs ms
      → map (λ t. get_or ms t []) (range_with_len 0 8) ≡ map (λ t. map (λ i. 2 ^ (32 * plane t i + seat t i)) (range_with_len 0 32)) (range_with_len 0 8)
      → (t i : ℕ) → t < 8 → i < 32 → plane t i < 8 → seat t i < 32 → bit_at (get_or vs t 0) i ≡ bit_at (get_or ws (plane t i) 0) (seat t i)
  moves vs ms plane seat h e t i lt lti within low =
      let inputs : get_or ms t [] ≡ map (λ i. 2 ^ (32 * plane t i + seat t i)) (range_with_len 0 32) =
      sym (get_or-map-range_with_len (λ t. get_or ms t []) 0 8 t t [] lt (omega arith)) ∙ ap (λ (x : List (List ℕ)). get_or x t []) e
      ∙ get_or-map-range_with_len (λ t. map (λ i. 2 ^ (32 * plane t i + seat t i)) (range_with_len 0 32)) 0 8 t t [] lt (omega arith) in
      let word : (32 * plane t i + seat t i) / 32 ≡ plane t i = omega (arith, low) in
      let place : (32 * plane t i + seat t i) % 32 ≡ seat t i = omega (arith, low) in
      h t i ∙ ap (λ (m : List ℕ). sum_of bit 256 (get_or m i 0)) inputs
      ∙ ap (sum_of bit 256) (get_or-map-range_with_len (λ i. 2 ^ (32 * plane t i + seat t i)) 0 32 i i 0 lti (omega arith))
      ∙ sum_of-one bit bit-lt 256 (32 * plane t i + seat t i) (omega (arith, within, low))
      ∙ ap₂ (λ (x y : ℕ). bit_at (get_or ws x 0) y) word place

  -- eight words after the exchanges that transpose
  pub transposed : (w1 w2 w3 : List ℕ) → w1 ≡ pairs_exchanged ws 1 0x55555555
      → w2 ≡ pairs_exchanged (chosen 0 w1 0 2 1 3 4 6 5 7) 2 0x33333333
      → w3 ≡ pairs_exchanged (chosen 0 w2 0 4 2 6 1 5 3 7) 4 0x0f0f0f0f
      → (t i : ℕ) → t < 8 → i < 32
      → bit_at (get_or (chosen 0 w3 0 2 4 6 1 3 5 7) t 0) i ≡ bit_at (get_or ws (i % 8) 0) (8 * (i / 8) + t)
  transposed w1 w2 w3 e1 e2 e3 t i lt lti =
      let m1 = pairs_masks rows 1 0x55555555 in
      let h1 = pairs-mean 1 0x55555555 ws w1 rows rows-mean e1 in
      let n1 = chosen [] m1 0 2 1 3 4 6 5 7 in
      let m2 = pairs_masks n1 2 0x33333333 in
      let h2 = pairs-mean 2 0x33333333 (chosen 0 w1 0 2 1 3 4 6 5 7) w2 n1 (chosen-mean w1 m1 h1 0 2 1 3 4 6 5 7) e2 in
      let n2 = chosen [] m2 0 4 2 6 1 5 3 7 in
      let m3 = pairs_masks n2 4 0x0f0f0f0f in
      let h3 = pairs-mean 4 0x0f0f0f0f (chosen 0 w2 0 4 2 6 1 5 3 7) w3 n2 (chosen-mean w2 m2 h2 0 4 2 6 1 5 3 7) e3 in
      moves (chosen 0 w3 0 2 4 6 1 3 5 7) across_masks (λ t i. i % 8) (λ t i. 8 * (i / 8) + t) (chosen-mean w3 m3 h3 0 2 4 6 1 3 5 7) across_values
      t i lt lti (omega arith) (omega (arith, lt, lti))

  -- eight words whose rows 1 and 3 go two columns on
  pub turned_back : (w : List ℕ) → w ≡ pairs_exchanged (chosen 0 ws 0 4 1 5 2 6 3 7) 0 0xff00ff00
      → (k p : ℕ) → k < 8 → p < 32
      → bit_at (get_or (chosen 0 w 0 2 4 6 1 3 5 7) k 0) p ≡ bit_at (get_or ws (2 * ((k / 2 + 2 * (p / 8)) % 4) + k % 2) 0) p
  turned_back w e k p lt ltp =
      let n = chosen [] rows 0 4 1 5 2 6 3 7 in
      let m = pairs_masks n 0 0xff00ff00 in
      let h = pairs-mean 0 0xff00ff00 (chosen 0 ws 0 4 1 5 2 6 3 7) w n (chosen-mean ws rows rows-mean 0 4 1 5 2 6 3 7) e in
      moves (chosen 0 w 0 2 4 6 1 3 5 7) back_masks (λ k p. 2 * ((k / 2 + 2 * (p / 8)) % 4) + k % 2) (λ k p. p) (chosen-mean w m h 0 2 4 6 1 3 5 7) back_values
      k p lt ltp (omega arith) ltp

  -- eight words whose pairs have exchanged every second bit
  pub paired : (w : List ℕ) → w ≡ pairs_exchanged ws 1 0x55555555
      → (t i : ℕ) → t < 8 → i < 32 → bit_at (get_or w t 0) i ≡ bit_at (get_or ws (2 * (t / 2) + i % 2) 0) (2 * (i / 2) + t % 2)
  paired w e t i lt lti =
      moves w paired_masks (λ t i. 2 * (t / 2) + i % 2) (λ t i. 2 * (i / 2) + t % 2) (pairs-mean 1 0x55555555 ws w rows rows-mean e) paired_values
      t i lt lti (omega (arith, lt)) (omega (arith, lti))

  -- the bits of a number that is put together of every eighth lane
  pub gather_moves : (p : ℕ) → p < 32 → bit_at (get_or (words gather_steps ws) 0 0) p ≡ bit_at (get_or ws (p % 8) 0) (8 * (p / 8))
  gather_moves p lt =
      let from : ℕ = 32 * (p % 8) + 8 * (p / 8) in
      let plane : from / 32 ≡ p % 8 = omega (arith, lt) in
      let seat : from % 32 ≡ 8 * (p / 8) = omega (arith, lt) in
      program-means bit bit-lt 256 gather_steps ws rows rows-mean 0 p
      ∙ ap (sum_of bit 256)
      (ap (λ (x : List ℕ). get_or x p 0) gather_masks
      ∙ get_or-map-range_with_len (λ p. 2 ^ (32 * (p % 8) + 8 * (p / 8))) 0 32 p p 0 lt (omega arith))
      ∙ sum_of-one bit bit-lt 256 from (omega (arith, lt))
      ∙ ap₂ (λ (x y : ℕ). bit_at (get_or ws x 0) y) plane seat
