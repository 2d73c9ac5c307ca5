-- Programs on one plane that move its bits.
use Rattle.std.proofs.Common.{◌≡◌, ℕ, zero, suc, ◌%◌, ◌^◌, ◌<◌, ◌++◌, List, [], ◌∷◌, refl, ap, ◌∙◌, sym, get_or, map, inl, inr, arith}
use Rattle.std.specs.Int.{bit_at}
use Rattle.std.specs.List.{range_with_len}
use Rattle.std.proofs.lemmas.Bool.{cases_lt}
use Rattle.std.proofs.lemmas.Nat.Bits.{bit_at-lt, bit_at-zero, bit_at_above}
use Rattle.std.proofs.lemmas.List.{get_or_past}
use Rattle.std.proofs.lemmas.List.FromFn.{get_or-map-range_with_len}
use Rattle.osc_aes.specs.Lanes.{below}
use Rattle.osc_aes.proofs.LinearPrograms.{Step, Sum, Down, Up, Under, words, all_masks, sum_of, sum_of-zero, sum_of-one, AllMean, program-means}

-- each bit of one word by itself
abbrev single : List ℕ
single = map (λ p. 2 ^ p) (range_with_len 0 32)

-- each bit of a word is an input
single-means : (x : ℕ) → x < 2 ^ 32 → AllMean (bit_at x) (bit_at-lt x) 32 (x ∷ []) (single ∷ [])
single-means x fit zero p = elim (cases_lt p 32) [
  | inl lt ↦
      sym (ap (sum_of (bit_at x) 32) (get_or-map-range_with_len (λ p. 2 ^ p) 0 32 p p 0 lt (omega arith)) ∙ sum_of-one (bit_at x) (bit_at-lt x) 32 p lt)
  | inr past ↦ bit_at_above x 32 p fit past ∙ sym (ap (sum_of (bit_at x) 32) (get_or_past single p 0 past) ∙ sum_of-zero (bit_at x) (bit_at-lt x) 32)
]
single-means x fit (suc k) p = bit_at-zero p ∙ sym (sum_of-zero (bit_at x) (bit_at-lt x) 32)

-- a program whose masks are those of moved bits moves the bits
moves : (ss : List Step) (from : ℕ → ℕ) → get_or (all_masks ss (single ∷ [])) 0 [] ≡ map (λ p. 2 ^ from p) (range_with_len 0 32)
    → (x : ℕ) → x < 2 ^ 32 → (i : ℕ) → i < 32 → from i < 32 → bit_at (get_or (words ss (x ∷ [])) 0 0) i ≡ bit_at x (from i)
moves ss from e x fit i lt within =
    program-means (bit_at x) (bit_at-lt x) 32 ss (x ∷ []) (single ∷ []) (single-means x fit) 0 i
    ∙ ap (λ (ms : List ℕ). sum_of (bit_at x) 32 (get_or ms i 0)) e
    ∙ ap (sum_of (bit_at x) 32) (get_or-map-range_with_len (λ p. 2 ^ from p) 0 32 i i 0 lt (omega arith))
    ∙ sum_of-one (bit_at x) (bit_at-lt x) 32 (from i) within

-- the steps that turn a word right by k bits
abbrev turned_word : ℕ → ℕ → List Step
turned_word k rest = Down 0 k ∷ Up 1 rest ∷ Sum 1 0 ∷ []

-- the steps that turn a word right by k bits under one mask, and by l bits under another
abbrev turned_apart : ℕ → ℕ → ℕ → ℕ → ℕ → ℕ → List Step
turned_apart k rest low l past high = turned_word k rest ++ (Under 0 low ∷ Down 4 l ∷ Up 5 past ∷ Sum 1 0 ∷ Under 0 high ∷ Sum 4 0 ∷ [])

-- the word that steps make of one
abbrev made : List Step → ℕ → ℕ
made ss x = get_or (words ss (x ∷ [])) 0 0

-- it has the bits of the lanes below, where each row stands turned by j more than the row above
abbrev TurnsOnce : ℕ → List Step → Type 0
TurnsOnce j ss = (x : ℕ) → x < 2 ^ 32 → (i : ℕ) → i < 32 → bit_at (made ss x) i ≡ bit_at x (below j i)

-- each row in the place of the row above it, for each j
pub turn_0 : TurnsOnce 0 (turned_word 8 24)
turn_0 x fit i lt = moves (turned_word 8 24) (below 0) refl x fit i lt (omega arith)

-- for j 1
pub turn_1 : TurnsOnce 1 (turned_apart 10 22 0x3f3f3f3f 2 30 0xc0c0c0c0)
turn_1 x fit i lt = moves (turned_apart 10 22 0x3f3f3f3f 2 30 0xc0c0c0c0) (below 1) refl x fit i lt (omega arith)

-- for j 2
pub turn_2 : TurnsOnce 2 (turned_apart 12 20 0x0f0f0f0f 4 28 0xf0f0f0f0)
turn_2 x fit i lt = moves (turned_apart 12 20 0x0f0f0f0f 4 28 0xf0f0f0f0) (below 2) refl x fit i lt (omega arith)

-- for j 3
pub turn_3 : TurnsOnce 3 (turned_apart 14 18 0x03030303 6 26 0xfcfcfcfc)
turn_3 x fit i lt = moves (turned_apart 14 18 0x03030303 6 26 0xfcfcfcfc) (below 3) refl x fit i lt (omega arith)

-- it has the bits of the lanes two rows below
abbrev TurnsTwice : ℕ → List Step → Type 0
TurnsTwice j ss = (x : ℕ) → x < 2 ^ 32 → (i : ℕ) → i < 32 → bit_at (made ss x) i ≡ bit_at x (below j (below j i))

-- the steps that put each row in the place of the second row above it, for j 1 and 3
abbrev turned_far : List Step
turned_far = turned_apart 20 12 0x0f0f0f0f 12 20 0xf0f0f0f0

-- for j 0 and 2
pub far_even : (j : ℕ) → j < 4 → j % 2 ≡ 0 → TurnsTwice j (turned_word 16 16)
far_even zero few even x fit i lt = moves (turned_word 16 16) (λ i. below 0 (below 0 i)) refl x fit i lt (omega arith)
far_even (suc zero) few even x fit i lt = absurd (omega (arith, even))
far_even (suc (suc zero)) few even x fit i lt = moves (turned_word 16 16) (λ i. below 2 (below 2 i)) refl x fit i lt (omega arith)
far_even (suc (suc (suc zero))) few even x fit i lt = absurd (omega (arith, even))
far_even (suc (suc (suc (suc j)))) few even x fit i lt = absurd (omega (arith, few))

-- for j 1 and 3
pub far_odd : (j : ℕ) → j < 4 → 0 < j % 2 → TurnsTwice j turned_far
far_odd zero few odd x fit i lt = absurd (omega (arith, odd))
far_odd (suc zero) few odd x fit i lt = moves turned_far (λ i. below 1 (below 1 i)) refl x fit i lt (omega arith)
far_odd (suc (suc zero)) few odd x fit i lt = absurd (omega (arith, odd))
far_odd (suc (suc (suc zero))) few odd x fit i lt = moves turned_far (λ i. below 3 (below 3 i)) refl x fit i lt (omega arith)
far_odd (suc (suc (suc (suc j)))) few odd x fit i lt = absurd (omega (arith, few))
