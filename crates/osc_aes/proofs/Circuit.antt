-- The circuit of the substitution box: its gates as data, run on words, and on the bits of one lane.
use Rattle.std.proofs.Common.{◌≡◌, ℕ, zero, suc, ◌+◌, ◌-◌, ◌%◌, ◌^◌, ◌<◌, List, [], ◌∷◌, refl, ap, ap₂, ◌∙◌, sym, get_or, map, min, bit_and, bit_xor, arith}
use Rattle.std.specs.Int.{bit_at}
use Rattle.std.specs.List.{range_with_len}
use Rattle.std.proofs.lemmas.Nat.Bits.{bit_at_and, bit_at_xor, bit_at_ones, bit_at-zero}
use Rattle.osc_aes.specs.Field.{mul, power, product_of_squares, inverse}
use Rattle.osc_aes.specs.SubstitutionBox.{from_bits, substitute}
use Rattle.osc_aes.specs.Views.{lane}
use Rattle.osc_aes.proofs.Entries.{same_on_bytes}
use Rattle.osc_aes.proofs.LaneBytes.{lane-bit, lane-lt}

-- a gate on two of the values so far, of which 0 is the newest
pub data Gate : Type 0 where
  Xor : ℕ → ℕ → Gate
  And : ℕ → ℕ → Gate

-- the value of a gate, where x adds and a multiplies
abbrev pub gate : (ℕ → ℕ → ℕ) → (ℕ → ℕ → ℕ) → Gate → List ℕ → ℕ
gate x a (Xor i j) vs = x (get_or vs i 0) (get_or vs j 0)
gate x a (And i j) vs = a (get_or vs i 0) (get_or vs j 0)

-- all values, the newest first
abbrev pub run : (ℕ → ℕ → ℕ) → (ℕ → ℕ → ℕ) → List Gate → List ℕ → List ℕ
run x a [] vs = vs
run x a (g ∷ gs) vs = let v = gate x a g vs in run x a gs (v ∷ vs)

-- ---- what commutes with the gates commutes with a run

-- a value that is missing counts as 0
get_or-map_zero : (h : ℕ → ℕ) → h 0 ≡ 0 → (vs : List ℕ) (k : ℕ) → h (get_or vs k 0) ≡ get_or (map h vs) k 0
get_or-map_zero h e [] k = e
get_or-map_zero h e (v ∷ vs) zero = refl
get_or-map_zero h e (v ∷ vs) (suc k) = get_or-map_zero h e vs k

-- some of the values
pick-map : (h : ℕ → ℕ) → h 0 ≡ 0 → (vs ks : List ℕ) → map h (map (λ k. get_or vs k 0) ks) ≡ map (λ k. get_or (map h vs) k 0) ks
pick-map h e vs [] = refl
pick-map h e vs (k ∷ ks) = ap₂ (λ (b : ℕ) (bs : List ℕ). b ∷ bs) (get_or-map_zero h e vs k) (pick-map h e vs ks)

-- h turns x and a into y and b
module _ (x a y b : ℕ → ℕ → ℕ) (h : ℕ → ℕ) (e : h 0 ≡ 0)
    (hx : (u v : ℕ) → h (x u v) ≡ y (h u) (h v)) (ha : (u v : ℕ) → h (a u v) ≡ b (h u) (h v)) where
  -- one gate
  gate-map : (g : Gate) (vs : List ℕ) → h (gate x a g vs) ≡ gate y b g (map h vs)
  gate-map (Xor i j) vs = hx (get_or vs i 0) (get_or vs j 0) ∙ ap₂ y (get_or-map_zero h e vs i) (get_or-map_zero h e vs j)
  gate-map (And i j) vs = ha (get_or vs i 0) (get_or vs j 0) ∙ ap₂ b (get_or-map_zero h e vs i) (get_or-map_zero h e vs j)

  -- all gates
  run-map : (gs : List Gate) (vs : List ℕ) → map h (run x a gs vs) ≡ run y b gs (map h vs)
  run-map [] vs = refl
  run-map (g ∷ gs) vs =
      run-map gs (gate x a g vs ∷ vs) ∙ ap (λ (v : ℕ). run y b gs (v ∷ map h vs)) (gate-map g vs)

-- ---- the circuit

-- its gates, in their order
abbrev pub substitution_gates : List Gate
substitution_gates =
    Xor 3 5 ∷ Xor 1 7 ∷ Xor 3 4 ∷ Xor 3 8 ∷ Xor 1 11 ∷ Xor 3 4 ∷ Xor 10 0 ∷ Xor 0 8 ∷
    Xor 3 8 ∷ Xor 4 15 ∷ Xor 0 6 ∷ Xor 4 16 ∷ Xor 0 19 ∷ Xor 13 16 ∷ Xor 2 11 ∷ Xor 7 1 ∷
    Xor 13 0 ∷ Xor 2 13 ∷ Xor 16 1 ∷ Xor 14 22 ∷ Xor 20 3 ∷ Xor 6 5 ∷ Xor 29 6 ∷ And 19 8 ∷
    And 4 31 ∷ And 19 13 ∷ And 15 13 ∷ Xor 0 1 ∷ And 18 23 ∷ And 27 12 ∷ And 29 8 ∷ And 17 15 ∷
    Xor 7 6 ∷ And 24 10 ∷ Xor 5 4 ∷ Xor 4 3 ∷ Xor 1 0 ∷ Xor 13 5 ∷ Xor 4 8 ∷ Xor 6 1 ∷
    Xor 12 4 ∷ Xor 1 23 ∷ Xor 1 34 ∷ Xor 6 24 ∷ Xor 5 6 ∷ Xor 2 3 ∷ Xor 1 25 ∷ And 4 3 ∷
    Xor 1 0 ∷ Xor 7 1 ∷ Xor 6 3 ∷ And 1 0 ∷ And 6 3 ∷ Xor 1 6 ∷ Xor 5 0 ∷ And 8 0 ∷
    Xor 12 2 ∷ Xor 1 0 ∷ Xor 5 16 ∷ Xor 10 3 ∷ And 1 37 ∷ And 2 1 ∷ Xor 3 8 ∷ And 4 54 ∷
    Xor 18 2 ∷ Xor 0 7 ∷ Xor 12 8 ∷ And 2 62 ∷ And 1 56 ∷ Xor 6 3 ∷ And 16 77 ∷ And 17 51 ∷
    And 9 56 ∷ And 15 60 ∷ Xor 15 9 ∷ And 9 71 ∷ And 1 59 ∷ And 11 62 ∷ And 13 68 ∷ And 9 57 ∷
    And 13 74 ∷ And 23 70 ∷ And 7 80 ∷ And 20 69 ∷ And 14 83 ∷ Xor 1 0 ∷ Xor 13 6 ∷ Xor 19 1 ∷
    Xor 7 6 ∷ Xor 28 10 ∷ Xor 13 3 ∷ Xor 22 14 ∷ Xor 21 31 ∷ Xor 11 21 ∷ Xor 23 11 ∷ Xor 0 3 ∷
    Xor 32 0 ∷ Xor 8 9 ∷ Xor 15 8 ∷ Xor 19 21 ∷ Xor 0 12 ∷ Xor 33 10 ∷ Xor 11 4 ∷ Xor 17 7 ∷
    Xor 7 3 ∷ Xor 31 7 ∷ Xor 14 0 ∷ Xor 22 31 ∷ Xor 9 7 ∷ Xor 0 117 ∷ Xor 17 4 ∷ Xor 17 6 ∷
    Xor 10 5 ∷ Xor 0 121 ∷ Xor 12 9 ∷ Xor 25 11 ∷ Xor 0 124 ∷ Xor 9 2 ∷ Xor 0 126 ∷
    []

-- its inputs: the bits of a byte, the highest first behind the others, and a one
abbrev pub inputs : (ℕ → ℕ) → ℕ → List ℕ
inputs f one = f 7 ∷ f 6 ∷ f 5 ∷ f 4 ∷ f 3 ∷ f 2 ∷ f 1 ∷ f 0 ∷ one ∷ []

-- where its outputs stand among the values, the lowest bit first
abbrev pub places : List ℕ
places = 2 ∷ 9 ∷ 7 ∷ 8 ∷ 12 ∷ 0 ∷ 5 ∷ 16 ∷ []

-- its outputs
abbrev pub outputs : List ℕ → List ℕ
outputs vs = map (λ k. get_or vs k 0) places

-- the sum of two bits
abbrev xor_bit : ℕ → ℕ → ℕ
xor_bit u v = (u + v) % 2

-- the byte with eight bits
abbrev byte_of : List ℕ → ℕ
byte_of bs = from_bits 8 (λ k. get_or bs k 0)

-- what the circuit makes of a byte
abbrev circuit_byte : ℕ → ℕ
circuit_byte b = byte_of (outputs (run xor_bit min substitution_gates (inputs (bit_at b) 1)))

-- of each byte
circuit_values : map circuit_byte (range_with_len 0 256) ≡ map substitute (range_with_len 0 256)
unfolding mul power product_of_squares inverse substitute
circuit_values = refl

-- equal bits make equal inputs
inputs-same : (f g : ℕ → ℕ) (u v : ℕ) → ((t : ℕ) → t < 8 → f t ≡ g t) → u ≡ v → inputs f u ≡ inputs g v
inputs-same f g u v h e =
    ap₂ (λ (b : ℕ) (bs : List ℕ). b ∷ bs) (h 7 (omega arith))
    (ap₂ (λ (b : ℕ) (bs : List ℕ). b ∷ bs) (h 6 (omega arith))
    (ap₂ (λ (b : ℕ) (bs : List ℕ). b ∷ bs) (h 5 (omega arith))
    (ap₂ (λ (b : ℕ) (bs : List ℕ). b ∷ bs) (h 4 (omega arith))
    (ap₂ (λ (b : ℕ) (bs : List ℕ). b ∷ bs) (h 3 (omega arith))
    (ap₂ (λ (b : ℕ) (bs : List ℕ). b ∷ bs) (h 2 (omega arith))
    (ap₂ (λ (b : ℕ) (bs : List ℕ). b ∷ bs) (h 1 (omega arith))
    (ap₂ (λ (b : ℕ) (bs : List ℕ). b ∷ bs) (h 0 (omega arith)) (ap (λ (b : ℕ). b ∷ []) e))))))))

-- on words it substitutes the byte in each lane
pub circuit_lane : (planes : List ℕ) (i : ℕ) → i < 32
    → lane (outputs (run bit_xor bit_and substitution_gates (inputs (λ k. get_or planes k 0) (2 ^ 32 - 1)))) i ≡ substitute (lane planes i)
circuit_lane planes i lt =
    let h : ℕ → ℕ = λ p. bit_at p i in
    let none : h 0 ≡ 0 = bit_at-zero i in
    let words : List ℕ = inputs (λ k. get_or planes k 0) (2 ^ 32 - 1) in
    let bits : map h words ≡ inputs (bit_at (lane planes i)) 1 =
    inputs-same (λ k. bit_at (get_or planes k 0) i) (bit_at (lane planes i)) _ 1 (λ t ltt. sym (lane-bit planes i t ltt)) (bit_at_ones 32 i lt) in
    ap byte_of (pick-map h none (run bit_xor bit_and substitution_gates words) places)
    ∙ ap (λ (vs : List ℕ). byte_of (outputs vs))
    (run-map bit_xor bit_and xor_bit min h none (λ u v. bit_at_xor u v i) (λ u v. bit_at_and u v i) substitution_gates words
    ∙ ap (run xor_bit min substitution_gates) bits)
    ∙ same_on_bytes circuit_byte substitute circuit_values (lane planes i) (lane-lt planes i)
