-- Lanes by their bits, and the field's product with 2.
use Rattle.std.proofs.Common.{◌≡◌, ℕ, zero, suc, ◌+◌, ◌*◌, ◌%◌, ◌<◌, List, [], ◌∷◌, refl, ap, ap₂, ◌∙◌, sym, get_or, map, bit_xor, arith}
use Rattle.std.specs.Int.{bit_at}
use Rattle.std.specs.List.{range_with_len}
use Rattle.std.specs.Int.Bits.{xor_assoc}
use Rattle.std.proofs.lemmas.Nat.{xor_lt, xor_comm}
use Rattle.std.proofs.lemmas.Nat.Bits.{bit_at_xor, bit_at-lt, same_from_bits_below}
use Rattle.osc_aes.specs.Field.{mul}
use Rattle.osc_aes.specs.SubstitutionBox.{from_bits}
use Rattle.osc_aes.specs.Views.{lane}
use Rattle.osc_aes.proofs.Entries.{same_on_bytes, triple-is}

-- a number of eight bits, as a sum
from_bits-eight : (b : ℕ → ℕ) → from_bits 8 b ≡ b 0 + 2 * b 1 + 4 * b 2 + 8 * b 3 + 16 * b 4 + 32 * b 5 + 64 * b 6 + 128 * b 7
from_bits-eight b = omega arith

-- a number of eight bits is a byte
from_bits-lt : (b : ℕ → ℕ) → ((t : ℕ) → b t < 2) → from_bits 8 b < 256
from_bits-lt b low = omega (arith, low 0, low 1, low 2, low 3, low 4, low 5, low 6, low 7)

-- and has those bits
bit_at-from_bits : (b : ℕ → ℕ) → ((t : ℕ) → b t < 2) → (t : ℕ) → t < 8 → bit_at (from_bits 8 b) t ≡ b t
bit_at-from_bits b low t lt = ap (λ (n : ℕ). bit_at n t) (from_bits-eight b) ∙ at t lt
  where
    at : (t : ℕ) → t < 8 → bit_at (b 0 + 2 * b 1 + 4 * b 2 + 8 * b 3 + 16 * b 4 + 32 * b 5 + 64 * b 6 + 128 * b 7) t ≡ b t
    at zero lt = omega (arith, low 0)
    at (suc zero) lt = omega (arith, low 0, low 1)
    at (suc (suc zero)) lt = omega (arith, low 0, low 1, low 2)
    at (suc (suc (suc zero))) lt = omega (arith, low 0, low 1, low 2, low 3)
    at (suc (suc (suc (suc zero)))) lt = omega (arith, low 0, low 1, low 2, low 3, low 4)
    at (suc (suc (suc (suc (suc zero))))) lt = omega (arith, low 0, low 1, low 2, low 3, low 4, low 5)
    at (suc (suc (suc (suc (suc (suc zero)))))) lt = omega (arith, low 0, low 1, low 2, low 3, low 4, low 5, low 6)
    at (suc (suc (suc (suc (suc (suc (suc zero))))))) lt = omega (arith, low 0, low 1, low 2, low 3, low 4, low 5, low 6, low 7)
    at (suc (suc (suc (suc (suc (suc (suc (suc t)))))))) lt = absurd (omega arith)

module _ (planes : List ℕ) (i : ℕ) where
  low : (t : ℕ) → bit_at (get_or planes t 0) i < 2
  low t = bit_at-lt (get_or planes t 0) i

  -- a lane is a byte
  pub lane-lt : lane planes i < 256
  lane-lt = from_bits-lt (λ t. bit_at (get_or planes t 0) i) low

  -- bit t of a lane is bit i of plane t
  pub lane-bit : (t : ℕ) → t < 8 → bit_at (lane planes i) t ≡ bit_at (get_or planes t 0) i
  lane-bit = bit_at-from_bits (λ t. bit_at (get_or planes t 0) i) low

  -- a lane with the bits of a byte is that byte
  pub lane-byte : (n : ℕ) → n < 256 → ((t : ℕ) → t < 8 → bit_at (get_or planes t 0) i ≡ bit_at n t) → lane planes i ≡ n
  lane-byte n fit h = same_from_bits_below 8 (lane planes i) n lane-lt fit (λ t lt. lane-bit t lt ∙ h t lt)

-- planes whose bits are sums
pub lane-sum : (r p q : List ℕ) (i : ℕ) → ((t : ℕ) → t < 8 → get_or r t 0 ≡ bit_xor (get_or p t 0) (get_or q t 0))
    → lane r i ≡ bit_xor (lane p i) (lane q i)
lane-sum r p q i e =
    lane-byte r i (bit_xor (lane p i) (lane q i)) (xor_lt 8 (lane p i) (lane q i) (lane-lt p i) (lane-lt q i))
    (λ t lt.
    ap (λ (x : ℕ). bit_at x i) (e t lt) ∙ bit_at_xor (get_or p t 0) (get_or q t 0) i
    ∙ ap₂ (λ (x y : ℕ). (x + y) % 2) (sym (lane-bit p i t lt)) (sym (lane-bit q i t lt))
    ∙ sym (bit_at_xor (lane p i) (lane q i) t))

-- eight sums
abbrev pub added : List ℕ → List ℕ → List ℕ
added p q =
    bit_xor (get_or p 0 0) (get_or q 0 0) ∷ bit_xor (get_or p 1 0) (get_or q 1 0) ∷ bit_xor (get_or p 2 0) (get_or q 2 0)
    ∷ bit_xor (get_or p 3 0) (get_or q 3 0) ∷ bit_xor (get_or p 4 0) (get_or q 4 0) ∷ bit_xor (get_or p 5 0) (get_or q 5 0)
    ∷ bit_xor (get_or p 6 0) (get_or q 6 0) ∷ bit_xor (get_or p 7 0) (get_or q 7 0) ∷ []

-- one of eight sums
get_or-added : (p q : List ℕ) (t : ℕ) → t < 8 → get_or (added p q) t 0 ≡ bit_xor (get_or p t 0) (get_or q t 0)
get_or-added p q zero lt = refl
get_or-added p q (suc zero) lt = refl
get_or-added p q (suc (suc zero)) lt = refl
get_or-added p q (suc (suc (suc zero))) lt = refl
get_or-added p q (suc (suc (suc (suc zero)))) lt = refl
get_or-added p q (suc (suc (suc (suc (suc zero))))) lt = refl
get_or-added p q (suc (suc (suc (suc (suc (suc zero)))))) lt = refl
get_or-added p q (suc (suc (suc (suc (suc (suc (suc zero))))))) lt = refl
get_or-added p q (suc (suc (suc (suc (suc (suc (suc (suc t)))))))) lt = absurd (omega arith)

-- the lane of eight sums
pub lane-added : (p q : List ℕ) (i : ℕ) → lane (added p q) i ≡ bit_xor (lane p i) (lane q i)
lane-added p q i = lane-sum (added p q) p q i (get_or-added p q)

-- ---- the product with 2

-- by the bits of a byte
abbrev doubled : (ℕ → ℕ) → ℕ
doubled b = b 7 + 2 * ((b 0 + b 7) % 2) + 4 * b 1 + 8 * ((b 2 + b 7) % 2) + 16 * ((b 3 + b 7) % 2) + 32 * b 4 + 64 * b 5 + 128 * b 6

-- the double of each byte
doubles : map (λ n. doubled (bit_at n)) (range_with_len 0 256) ≡ map (mul 2) (range_with_len 0 256)
unfolding mul
doubles = refl

-- 02 times each lane, by planes
abbrev pub double_of : List ℕ → List ℕ
double_of p =
    get_or p 7 0 ∷ bit_xor (get_or p 0 0) (get_or p 7 0) ∷ get_or p 1 0 ∷ bit_xor (get_or p 2 0) (get_or p 7 0)
    ∷ bit_xor (get_or p 3 0) (get_or p 7 0) ∷ get_or p 4 0 ∷ get_or p 5 0 ∷ get_or p 6 0 ∷ []

-- and so it is
pub lane-double : (p : List ℕ) (i : ℕ) → lane (double_of p) i ≡ mul 2 (lane p i)
lane-double p i =
    let b : (t : ℕ) → t < 8 → bit_at (get_or p t 0) i ≡ bit_at (lane p i) t = λ t lt. sym (lane-bit p i t lt) in
    let s : (t : ℕ) → t < 8 → bit_at (bit_xor (get_or p t 0) (get_or p 7 0)) i ≡ (bit_at (lane p i) t + bit_at (lane p i) 7) % 2 =
    λ t lt. bit_at_xor (get_or p t 0) (get_or p 7 0) i ∙ ap₂ (λ (x y : ℕ). (x + y) % 2) (b t lt) (b 7 (omega arith)) in
    let e : lane (double_of p) i ≡ doubled (bit_at (lane p i)) =
    omega (arith, from_bits-eight (λ t. bit_at (get_or (double_of p) t 0) i), b 7 (omega arith), b 1 (omega arith), b 4 (omega arith), b 5 (omega arith), b 6 (omega arith), s 0 (omega arith), s 2 (omega arith), s 3 (omega arith)) in
    e ∙ same_on_bytes (λ n. doubled (bit_at n)) (mul 2) doubles (lane p i) (lane-lt p i)

-- the sum of two sums, across
exchange : (a b c d : ℕ) → bit_xor (bit_xor a b) (bit_xor c d) ≡ bit_xor (bit_xor a c) (bit_xor b d)
exchange a b c d =
    xor_assoc a b (bit_xor c d)
    ∙ ap (bit_xor a) (sym (xor_assoc b c d) ∙ ap (λ (x : ℕ). bit_xor x d) (xor_comm b c) ∙ xor_assoc c b d)
    ∙ sym (xor_assoc a c (bit_xor b d))

-- the double of a sum
double-added : (p q : List ℕ) → double_of (added p q) ≡ added (double_of p) (double_of q)
double-added p q =
    let x : (t : ℕ) → bit_xor (bit_xor (get_or p t 0) (get_or q t 0)) (bit_xor (get_or p 7 0) (get_or q 7 0))
    ≡ bit_xor (bit_xor (get_or p t 0) (get_or p 7 0)) (bit_xor (get_or q t 0) (get_or q 7 0)) =
    λ t. exchange (get_or p t 0) (get_or q t 0) (get_or p 7 0) (get_or q 7 0) in
    rw (x 0, x 2, x 3) refl

-- the product with 2 of a sum
product-sum : (p q : List ℕ) (i : ℕ) → mul 2 (bit_xor (lane p i) (lane q i)) ≡ bit_xor (mul 2 (lane p i)) (mul 2 (lane q i))
product-sum p q i =
    ap (mul 2) (sym (lane-added p q i)) ∙ sym (lane-double (added p q) i) ∙ ap (λ (r : List ℕ). lane r i) (double-added p q)
    ∙ lane-added (double_of p) (double_of q) i ∙ ap₂ bit_xor (lane-double p i) (lane-double q i)

-- two rows of a mixed column: 02 times a sum, and the second once more
pub lane-mixed : (p q : List ℕ) (i : ℕ)
    → bit_xor (mul 2 (bit_xor (lane p i) (lane q i))) (lane q i) ≡ bit_xor (mul 2 (lane p i)) (mul 3 (lane q i))
lane-mixed p q i =
    ap (λ (x : ℕ). bit_xor x (lane q i)) (product-sum p q i) ∙ xor_assoc (mul 2 (lane p i)) (mul 2 (lane q i)) (lane q i)
    ∙ ap (bit_xor (mul 2 (lane p i))) (triple-is (lane q i) (lane-lt q i))
