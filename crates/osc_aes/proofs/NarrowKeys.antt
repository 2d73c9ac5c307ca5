-- Round keys that are kept in four words.
use Rattle.std.proofs.Common.{◌≡◌, ℕ, zero, suc, ◌+◌, ◌*◌, ◌/◌, ◌%◌, ◌^◌, ◌<◌, List, [], ◌∷◌, length, get_or, refl, ap, ap₂, ◌∙◌, arith, get_or-take, get_or-set_other, get_or-set_same, set, sym, subst, inl, inr}
use Rattle.std.proofs.lemmas.Bool.{cases_eq}
use Rattle.std.proofs.lemmas.List.FromFn.{fill_by_all}
use Rattle.std.specs.Int.{bit_at}
use Rattle.osc_aes.specs.SubstitutionBox.{from_bits}
use Rattle.osc_aes.specs.Aes128.{expanded_key}
use Rattle.osc_aes.specs.Views.{key_lane, key_of_narrow, lane}
use Rattle.osc_aes.specs.Lanes.{IsKeyOf, KeepKeys, KeepsKey, lane_of, pairs_exchanged}
use Rattle.osc_aes.proofs.Lengths.{take-expanded_key}
use Rattle.osc_aes.proofs.PackedBits.{paired}

-- numbers of the same bits
from_bits_same : (n : ℕ) (f g : ℕ → ℕ) → ((k : ℕ) → k < n → f k ≡ g k) → from_bits n f ≡ from_bits n g
from_bits_same zero f g h = refl
from_bits_same (suc n) f g h = ap₂ (λ a b. a + b * 2 ^ n) (from_bits_same n f g (λ k lt. h k (omega (arith, lt)))) (h n (omega arith))

-- every second one of eight words
abbrev even_words : List ℕ → List ℕ
even_words w = get_or w 0 0 ∷ get_or w 2 0 ∷ get_or w 4 0 ∷ get_or w 6 0 ∷ []

-- each of four words twice
abbrev pub twice : List ℕ → List ℕ
twice w = get_or w 0 0 ∷ get_or w 0 0 ∷ get_or w 1 0 ∷ get_or w 1 0 ∷ get_or w 2 0 ∷ get_or w 2 0 ∷ get_or w 3 0 ∷ get_or w 3 0 ∷ []

even_word : (w : List ℕ) (j : ℕ) → j < 4 → get_or (even_words w) j 0 ≡ get_or w (2 * j) 0
even_word w zero lt = refl
even_word w (suc zero) lt = refl
even_word w (suc (suc zero)) lt = refl
even_word w (suc (suc (suc zero))) lt = refl
even_word w (suc (suc (suc (suc j)))) lt = absurd (omega (arith, lt))

pub twice_word : (w : List ℕ) (j : ℕ) → j < 8 → get_or (twice w) j 0 ≡ get_or w (j / 2) 0
twice_word w zero lt = refl
twice_word w (suc zero) lt = refl
twice_word w (suc (suc zero)) lt = refl
twice_word w (suc (suc (suc zero))) lt = refl
twice_word w (suc (suc (suc (suc zero)))) lt = refl
twice_word w (suc (suc (suc (suc (suc zero))))) lt = refl
twice_word w (suc (suc (suc (suc (suc (suc zero)))))) lt = refl
twice_word w (suc (suc (suc (suc (suc (suc (suc zero))))))) lt = refl
twice_word w (suc (suc (suc (suc (suc (suc (suc (suc j)))))))) lt = absurd (omega (arith, lt))

pub twice_fits : (w : List ℕ) → ((j : ℕ) → get_or w j 0 < 2 ^ 32) → (k : ℕ) → get_or (twice w) k 0 < 2 ^ 32
twice_fits w fits zero = fits 0
twice_fits w fits (suc zero) = fits 0
twice_fits w fits (suc (suc zero)) = fits 1
twice_fits w fits (suc (suc (suc zero))) = fits 1
twice_fits w fits (suc (suc (suc (suc zero)))) = fits 2
twice_fits w fits (suc (suc (suc (suc (suc zero))))) = fits 2
twice_fits w fits (suc (suc (suc (suc (suc (suc zero)))))) = fits 3
twice_fits w fits (suc (suc (suc (suc (suc (suc (suc zero))))))) = fits 3
twice_fits w fits (suc (suc (suc (suc (suc (suc (suc (suc k)))))))) = omega arith

-- planes of which four words keep every second lane
pub narrowed_lanes : (planes w : List ℕ) → length planes ≡ 8 → ((k : ℕ) → get_or planes k 0 < 2 ^ 32) → w ≡ pairs_exchanged planes 1 0x55555555
    → (i : ℕ) → i < 32 → key_lane (even_words w) i ≡ lane planes (2 * (i / 2))
narrowed_lanes planes w eight fits e i lt = from_bits_same 8 _ _ (λ k ltk.
    let plane : 2 * (2 * (k / 2) / 2) + (2 * (i / 2) + k % 2) % 2 ≡ k = omega arith in
    let seat : 2 * ((2 * (i / 2) + k % 2) / 2) + 2 * (k / 2) % 2 ≡ 2 * (i / 2) = omega arith in
    ap (λ (x : ℕ). bit_at x (2 * (i / 2) + k % 2)) (even_word w (k / 2) (omega (arith, ltk)))
    ∙ paired planes eight fits w e (2 * (k / 2)) (2 * (i / 2) + k % 2) (omega (arith, ltk)) (omega (arith, lt))
    ∙ ap₂ (λ (x y : ℕ). bit_at (get_or planes x 0) y) plane seat)

-- planes that are made of four words again
pub widened_lanes : (words w : List ℕ) → ((k : ℕ) → get_or (twice words) k 0 < 2 ^ 32) → w ≡ pairs_exchanged (twice words) 1 0x55555555
    → (i : ℕ) → i < 32 → lane w i ≡ key_lane words i
widened_lanes words w fits e i lt = from_bits_same 8 _ _ (λ k ltk.
    let half : (2 * (k / 2) + i % 2) / 2 ≡ k / 2 = omega arith in
    paired (twice words) refl fits w e k i ltk lt
    ∙ ap (λ (x : ℕ). bit_at x (2 * (i / 2) + k % 2)) (twice_word words (2 * (k / 2) + i % 2) (omega (arith, ltk)) ∙ ap (λ (j : ℕ). get_or words j 0) half))

-- the lanes of both blocks
both_lanes : (row x b : ℕ) → b < 2 → 2 * ((8 * row + (2 * x + b)) / 2) ≡ 2 * ((8 * row + (2 * x + 0)) / 2)
both_lanes row x b lt = omega (arith, lt)

lane_seat : (b x row : ℕ) → b < 2 → row < 4 → 8 * row + (2 * (x % 4) + b) < 32
lane_seat b x row few lt = omega (arith, few, lt)

-- a round key in planes, by the words that keep it
pub wide_key : (r : ℕ) (words planes w : List ℕ) → ((i : ℕ) → i < 32 → lane planes i ≡ key_lane words i) → KeepsKey r words w → IsKeyOf r planes w
wide_key r words planes w wide held b row column few ltr ltc =
    wide (lane_of r b row column) (lane_seat b (column + r * row) row few ltr)
    ∙ ap (λ (m : ℕ). from_bits 8 (λ k. bit_at (get_or words (k / 2) 0) (m + k % 2))) (both_lanes row ((column + r * row) % 4) b few) ∙ held row column ltr ltc

-- an even lane
even_lane : (row x : ℕ) → 2 * ((8 * row + (2 * x + 0)) / 2) ≡ 8 * row + (2 * x + 0)
even_lane row x = omega arith

-- a round key that four words keep, by its planes
pub narrow_key : (r : ℕ) (words planes w : List ℕ) → ((i : ℕ) → i < 32 → key_lane words i ≡ lane planes (2 * (i / 2))) → IsKeyOf r planes w → KeepsKey r words w
narrow_key r words planes w narrow held row column ltr ltc =
    narrow (lane_of r 0 row column) (lane_seat 0 (column + r * row) row (omega arith) ltr)
    ∙ ap (lane planes) (even_lane row ((column + r * row) % 4)) ∙ held 0 row column (omega arith) ltr ltc

-- what holds of each of a list's first elements holds of one more
pub set_more : (P : ℕ → List ℕ → Type 0) (n : ℕ) (keys : List (List ℕ)) (x : List ℕ) → n < length keys → P n x → ((r : ℕ) → r < n → P r (get_or keys r []))
    → (r : ℕ) → r < n + 1 → P r (get_or (set keys n x) r [])
set_more P n keys x room holds before r lt = elim (cases_eq r n) [
  | inl same ↦
      subst (λ (m : ℕ). P m (get_or (set keys n x) m [])) (sym same) (subst (P n) (sym (get_or-set_same keys n x [] room)) holds)
  | inr other ↦ subst (P r) (sym (get_or-set_other keys n r x [] other)) (before r (omega (arith, lt, other)))
]

-- the key of round keys that four words keep each
pub narrow_known : (keys : List (List ℕ)) (key : List ℕ) → length key ≡ 16 → KeepKeys keys (expanded_key key) → key_of_narrow keys ≡ key
unfolding key_of_narrow
narrow_known keys key long held =
    sym (fill_by_all (λ n. key_lane (get_or keys 0 []) (8 * (n % 4) + 2 * (n / 4))) key 16 0 long (λ n lt.
    let back : 16 * 0 + (n % 4 + 4 * (n / 4)) ≡ n = omega arith in
    let seat : lane_of 0 0 (n % 4) (n / 4) ≡ 8 * (n % 4) + 2 * (n / 4) = omega (arith, lt) in
    sym (ap (key_lane (get_or keys 0 [])) (sym seat) ∙ held 0 (omega arith) (n % 4) (n / 4) (omega arith) (omega (arith, lt))
    ∙ ap (λ (j : ℕ). get_or (expanded_key key) j 0) back
    ∙ sym (get_or-take 16 (expanded_key key) n 0 lt) ∙ ap (λ (x : List ℕ). get_or x n 0) (take-expanded_key (expanded_key key) key long refl))))

-- they keep the key that they hold
pub own_narrow : (keys : List (List ℕ)) (key : List ℕ) → length key ≡ 16 → KeepKeys keys (expanded_key key) → KeepKeys keys (expanded_key (key_of_narrow keys))
own_narrow keys key long held =
    let P : List ℕ → Type 0 = λ k. KeepKeys keys (expanded_key k) in
    subst P (sym (narrow_known keys key long held)) held
