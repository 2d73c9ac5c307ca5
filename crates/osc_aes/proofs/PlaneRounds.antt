-- A round on planes is a round on the state of each block.
use Rattle.std.proofs.Common.{◌≡◌, ℕ, zero, suc, ◌+◌, ◌*◌, ◌/◌, ◌%◌, ◌<◌, List, refl, ap, ap₂, ◌∙◌, sym, subst, get_or, bit_xor, arith}
use Rattle.std.proofs.lemmas.List.FromFn.{fill_by_all, get_or-map-range_with_len}
use Rattle.osc_aes.specs.Field.{mul}
use Rattle.osc_aes.specs.SubstitutionBox.{substitute}
use Rattle.osc_aes.specs.Aes128.{State, add_round_key, after_rounds, block_of, cipher, mix_columns, shift_rows, state_of, sub_bytes}
use Rattle.osc_aes.specs.Views.{lane}
use Rattle.osc_aes.specs.Lanes.{IsKeyOf, below, block_in, lane_of, state_in}

-- two states have the same 16 bytes
abbrev Same : State → State → Type 0
Same s t = (r c : ℕ) → r < 4 → c < 4 → s r c ≡ t r c

-- they have one block
block-same : (s t : State) → Same s t → block_of s ≡ block_of t
block-same s t h =
    fill_by_all (λ k. t (k % 4) (k / 4)) (block_of s) 16 0 refl
    (λ k lt. get_or-map-range_with_len (λ k. s (k % 4) (k / 4)) 0 16 k k 0 lt (omega arith) ∙ h (k % 4) (k / 4) (omega arith) (omega (arith, lt)))

-- a state is that of its block
state-block : (s : State) → Same (state_of (block_of s)) s
state-block s r c ltr ltc =
    let row : (r + 4 * c) % 4 ≡ r = omega (arith, ltr) in
    let column : (r + 4 * c) / 4 ≡ c = omega (arith, ltr) in
    get_or-map-range_with_len (λ k. s (k % 4) (k / 4)) 0 16 (r + 4 * c) (r + 4 * c) 0 (omega (arith, ltr, ltc)) (omega arith)
    ∙ ap₂ s row column

-- the state of planes is that of their block
pub state-known : (n : ℕ) (p block : List ℕ) (b : ℕ) → block_in n p b ≡ block → Same (state_in n p b) (state_of block)
state-known n p block b e r c ltr ltc = sym (state-block (state_in n p b) r c ltr ltc) ∙ ap (λ (x : List ℕ). state_of x r c) e

-- ---- where a row and a column stand

-- in one of 32 lanes
lane-seat : (b x r : ℕ) → b < 2 → r < 4 → 8 * r + (2 * (x % 4) + b) < 32
lane-seat b x r few lt = omega (arith, few, lt)

-- after one more round, in the lane where the column stood that ShiftRows brings there
one_more_turn : (n r c : ℕ) → r < 4 → (c + (n + 1) * r) % 4 ≡ ((c + r) % 4 + n * r) % 4
one_more_turn n zero c lt = omega arith
one_more_turn n (suc zero) c lt = omega arith
one_more_turn n (suc (suc zero)) c lt = omega arith
one_more_turn n (suc (suc (suc zero))) c lt = omega arith
one_more_turn n (suc (suc (suc (suc r)))) c lt = absurd (omega (arith, lt))

-- and one row below, a further turn away
row_below : (n j r c : ℕ) → n % 4 ≡ j → r < 4 → ((c + n * r) % 4 + j) % 4 ≡ (c + n * ((r + 1) % 4)) % 4
row_below n j zero c e lt = omega (arith, e)
row_below n j (suc zero) c e lt = omega (arith, e)
row_below n j (suc (suc zero)) c e lt = omega (arith, e)
row_below n j (suc (suc (suc zero))) c e lt = omega (arith, e)
row_below n j (suc (suc (suc (suc r)))) c e lt = absurd (omega (arith, lt))

-- which is the lane below
below-seat : (b j x r : ℕ) → b < 2 → r < 4 → below j (8 * r + (2 * (x % 4) + b)) ≡ 8 * ((r + 1) % 4) + (2 * ((x % 4 + j) % 4) + b)
below-seat b j x r few lt = omega (arith, few, lt)

module _ (n b : ℕ) (few : b < 2) where
  -- planes substituted lane by lane
  sub-state : (p q : List ℕ) → ((i : ℕ) → i < 32 → lane q i ≡ substitute (lane p i)) → Same (state_in n q b) (sub_bytes (state_in n p b))
  sub-state p q h r c ltr ltc = h (lane_of n b r c) (lane-seat b (c + n * r) r few ltr)

  -- planes that count one round more
  shift-state : (p : List ℕ) → Same (state_in (n + 1) p b) (shift_rows (state_in n p b))
  shift-state p r c ltr ltc = ap (λ (x : ℕ). lane p (8 * r + (2 * x + b))) (one_more_turn n r c ltr)

  -- the lane below
  below-lane : (j : ℕ) → n % 4 ≡ j → (r c : ℕ) → r < 4 → below j (lane_of n b r c) ≡ lane_of n b ((r + 1) % 4) c
  below-lane j e r c ltr =
      below-seat b j (c + n * r) r few ltr ∙ ap (λ (x : ℕ). 8 * ((r + 1) % 4) + (2 * x + b)) (row_below n j r c e ltr)

  -- planes whose lanes are mixed
  mix-state : (p q : List ℕ) (j : ℕ) → n % 4 ≡ j
      → ((i : ℕ) → i < 32 → lane q i ≡ bit_xor (bit_xor (mul 2 (lane p i)) (mul 3 (lane p (below j i))))
      (bit_xor (lane p (below j (below j i))) (lane p (below j (below j (below j i)))))) → Same (state_in n q b) (mix_columns (state_in n p b))
  mix-state p q j e h r c ltr ltc =
      let row2 : ((r + 1) % 4 + 1) % 4 ≡ (r + 2) % 4 = omega arith in
      let row3 : ((r + 2) % 4 + 1) % 4 ≡ (r + 3) % 4 = omega arith in
      let e1 : below j (lane_of n b r c) ≡ lane_of n b ((r + 1) % 4) c = below-lane j e r c ltr in
      let e2 : below j (below j (lane_of n b r c)) ≡ lane_of n b ((r + 2) % 4) c =
      ap (below j) e1 ∙ below-lane j e ((r + 1) % 4) c (omega arith) ∙ ap (λ (x : ℕ). lane_of n b x c) row2 in
      let e3 : below j (below j (below j (lane_of n b r c))) ≡ lane_of n b ((r + 3) % 4) c =
      ap (below j) e2 ∙ below-lane j e ((r + 2) % 4) c (omega arith) ∙ ap (λ (x : ℕ). lane_of n b x c) row3 in
      h (lane_of n b r c) (lane-seat b (c + n * r) r few ltr)
      ∙ ap₂ bit_xor (ap (λ (x : ℕ). bit_xor (mul 2 (lane p (lane_of n b r c))) (mul 3 (lane p x))) e1)
      (ap₂ (λ (x y : ℕ). bit_xor (lane p x) (lane p y)) e2 e3)

  -- planes with a round key added
  add-state : (w k p q : List ℕ) → IsKeyOf n k w → ((i : ℕ) → i < 32 → lane q i ≡ bit_xor (lane p i) (lane k i))
      → Same (state_in n q b) (add_round_key w n (state_in n p b))
  add-state w k p q key h r c ltr ltc =
      h (lane_of n b r c) (lane-seat b (c + n * r) r few ltr) ∙ ap (bit_xor (lane p (lane_of n b r c))) (key b r c few ltr ltc)

-- the steps keep sameness
module _ (s t : State) (h : Same s t) where
  -- substituting
  sub-same : Same (sub_bytes s) (sub_bytes t)
  sub-same r c ltr ltc = ap substitute (h r c ltr ltc)

  -- shifting
  shift-same : Same (shift_rows s) (shift_rows t)
  shift-same r c ltr ltc = h r ((c + r) % 4) ltr (omega arith)

  -- mixing
  mix-same : Same (mix_columns s) (mix_columns t)
  mix-same r c ltr ltc =
      ap₂ bit_xor (ap₂ (λ (x y : ℕ). bit_xor (mul 2 x) (mul 3 y)) (h r c ltr ltc) (h ((r + 1) % 4) c (omega arith) ltc))
      (ap₂ bit_xor (h ((r + 2) % 4) c (omega arith) ltc) (h ((r + 3) % 4) c (omega arith) ltc))

  -- adding a round key
  add-same : (w : List ℕ) (n : ℕ) → Same (add_round_key w n s) (add_round_key w n t)
  add-same w n r c ltr ltc = ap (λ (x : ℕ). bit_xor x (get_or w (16 * n + (r + 4 * c)) 0)) (h r c ltr ltc)

-- one after the other
then_ : (s t u : State) → Same s t → Same t u → Same s u
then_ s t u h k r c ltr ltc = h r c ltr ltc ∙ k r c ltr ltc

module _ (w : List ℕ) (b : ℕ) (few : b < 2) where
  -- planes with round key 0 added
  pub first_planes : (k p q : List ℕ) → IsKeyOf 0 k w → ((i : ℕ) → i < 32 → lane q i ≡ bit_xor (lane p i) (lane k i))
      → block_in 0 q b ≡ after_rounds w (block_in 0 p b) 0
  unfolding after_rounds
  first_planes k p q key add =
      block-same (state_in 0 q b) (add_round_key w 0 (state_of (block_in 0 p b)))
      (then_ (state_in 0 q b) (add_round_key w 0 (state_in 0 p b)) (add_round_key w 0 (state_of (block_in 0 p b)))
      (add-state 0 b few w k p q key add)
      (add-same (state_in 0 p b) (state_of (block_in 0 p b)) (state-known 0 p (block_in 0 p b) b refl) w 0))

  module _ (block p p1 : List ℕ) (n : ℕ) (known : block_in n p b ≡ after_rounds w block n)
      (sub : (i : ℕ) → i < 32 → lane p1 i ≡ substitute (lane p i)) where
    -- the state before the round, substituted and shifted
    abbrev s1 : State
    s1 = shift_rows (sub_bytes (state_of (after_rounds w block n)))

    -- planes that are substituted stand for it, one round later
    shifted-state : Same (state_in (n + 1) p1 b) s1
    shifted-state =
        let s0 : State = state_of (after_rounds w block n) in
        then_ (state_in (n + 1) p1 b) (shift_rows (state_in n p1 b)) s1 (shift-state n b few p1)
        (shift-same (state_in n p1 b) (sub_bytes s0)
        (then_ (state_in n p1 b) (sub_bytes (state_in n p b)) (sub_bytes s0) (sub-state n b few p p1 sub)
        (sub-same (state_in n p b) s0 (state-known n p (after_rounds w block n) b known))))

    -- planes after round n + 1
    one_more_round : (k p2 p3 : List ℕ) (j : ℕ) → (n + 1) % 4 ≡ j → IsKeyOf (n + 1) k w
        → ((i : ℕ) → i < 32 → lane p2 i ≡ bit_xor (bit_xor (mul 2 (lane p1 i)) (mul 3 (lane p1 (below j i))))
        (bit_xor (lane p1 (below j (below j i))) (lane p1 (below j (below j (below j i))))))
        → ((i : ℕ) → i < 32 → lane p3 i ≡ bit_xor (lane p2 i) (lane k i)) → block_in (n + 1) p3 b ≡ after_rounds w block (n + 1)
    unfolding after_rounds
    one_more_round k p2 p3 j e key mix add =
        let m : ℕ = n + 1 in
        let next : suc n ≡ n + 1 = omega arith in
        block-same (state_in m p3 b) (add_round_key w m (mix_columns s1))
        (then_ (state_in m p3 b) (add_round_key w m (state_in m p2 b)) (add_round_key w m (mix_columns s1)) (add-state m b few w k p2 p3 key add)
        (add-same (state_in m p2 b) (mix_columns s1)
        (then_ (state_in m p2 b) (mix_columns (state_in m p1 b)) (mix_columns s1) (mix-state m b few p1 p2 j e mix)
        (mix-same (state_in m p1 b) s1 shifted-state)) w m))
        ∙ ap (after_rounds w block) next

    -- planes after one more round, which is round m
    pub next_planes : (k p2 p3 : List ℕ) (m j : ℕ) → m ≡ n + 1 → m % 4 ≡ j → IsKeyOf m k w
        → ((i : ℕ) → i < 32 → lane p2 i ≡ bit_xor (bit_xor (mul 2 (lane p1 i)) (mul 3 (lane p1 (below j i))))
        (bit_xor (lane p1 (below j (below j i))) (lane p1 (below j (below j (below j i))))))
        → ((i : ℕ) → i < 32 → lane p3 i ≡ bit_xor (lane p2 i) (lane k i)) → block_in m p3 b ≡ after_rounds w block m
    next_planes k p2 p3 m j step e key mix add =
        let P : ℕ → Type 0 = λ x. x % 4 ≡ j → IsKeyOf x k w → block_in x p3 b ≡ after_rounds w block x in
        subst P (sym step) (λ e key. one_more_round k p2 p3 j e key mix add) e key

  -- planes after the last round
  pub last_planes : (block k p p1 p2 : List ℕ) → block_in 9 p b ≡ after_rounds w block 9
      → ((i : ℕ) → i < 32 → lane p1 i ≡ substitute (lane p i)) → IsKeyOf 10 k w
      → ((i : ℕ) → i < 32 → lane p2 i ≡ bit_xor (lane p1 i) (lane k i)) → block_in 10 p2 b ≡ cipher w block
  unfolding cipher
  last_planes block k p p1 p2 known sub key add =
      let s1 : State = shift_rows (sub_bytes (state_of (after_rounds w block 9))) in
      block-same (state_in 10 p2 b) (add_round_key w 10 s1)
      (then_ (state_in 10 p2 b) (add_round_key w 10 (state_in 10 p1 b)) (add_round_key w 10 s1)
      (add-state 10 b few w k p1 p2 key add)
      (add-same (state_in 10 p1 b) s1 (shifted-state block p p1 9 known sub) w 10))
