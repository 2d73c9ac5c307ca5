-- An option, taken apart behind its first byte as the code reads it.
use Rattle.std.proofs.Common.{◌≡◌, ℕ, ◌+◌, ◌-◌, ◌*◌, ◌/◌, ◌%◌, ◌<◌, ◌≤◌, List, [], ◌∷◌, ◌++◌, length, get_or, drop, refl, sym, ap, subst, ◌∙◌, append_assoc, arith}
use Rattle.osc_coap.specs.OptionSpelling.{Entry, Stands, StartsWithOption, Spells}

-- behind an option byte of these nibbles stand extended delta, extended length, value and the tail
pub record HasPieces (delta_nibble length_nibble delta : ℕ) (value tail bytes : List ℕ) : Type 0 where
  pub delta_bytes : List ℕ
  pub length_bytes : List ℕ
  pub delta_is : Stands delta_nibble delta_bytes delta
  pub length_is : Stands length_nibble length_bytes (length value)
  pub whole : bytes ≡ delta_bytes ++ (length_bytes ++ (value ++ tail))

-- the bytes are one option after number d, and then the tail
abbrev pub Begins : ℕ → Entry → List ℕ → List ℕ → Type 0
Begins d entry tail [] = ⊥
Begins d entry tail (b ∷ bytes) = (d ≤ entry.0) × (entry.0 ≤ 65535) × HasPieces (b / 16) (b % 16) (entry.0 - d) entry.1 tail bytes

-- a nibble that stands for a number is below 15
pub nibble_small : (nibble : ℕ) (text : List ℕ) (n : ℕ) → Stands nibble text n → nibble < 15
nibble_small nibble [] n h = omega (arith, h.0)
nibble_small nibble (x ∷ []) n h = omega (arith, h.0)
nibble_small nibble (x ∷ y ∷ []) n h = omega (arith, h.0)
nibble_small nibble (x ∷ y ∷ z ∷ more) n h = absurd h

-- the first element of equal lists
pub same_first : (x y : ℕ) (xs ys : List ℕ) → x ∷ xs ≡ y ∷ ys → x ≡ y
same_first x y xs ys e = ap (λ (z : List ℕ). get_or z 0 0) e

-- the others of equal lists
pub same_others : (x y : ℕ) (xs ys : List ℕ) → x ∷ xs ≡ y ∷ ys → xs ≡ ys
same_others x y xs ys e = ap (λ (z : List ℕ). drop 1 z) e

-- four lists in another grouping
regroup : (a b c d : List ℕ) → (a ++ (b ++ c)) ++ d ≡ a ++ (b ++ (c ++ d))
regroup a b c d = simp append_assoc

-- no option takes no bytes
pub nothing_starts : (delta : ℕ) (value tail : List ℕ) → StartsWithOption delta value tail [] → ⊥
nothing_starts delta value tail h =
    let e : [] ≡ (16 * h.1.delta_nibble + h.1.length_nibble) ∷ ((h.1.delta_bytes ++ (h.1.length_bytes ++ value)) ++ tail) = h.2 ∙ ap (λ (z : List ℕ). z ++ tail) h.1.whole in
    cc

-- the pieces of an option
pub option_pieces : (delta : ℕ) (value tail : List ℕ) (b : ℕ) (bytes : List ℕ) → StartsWithOption delta value tail (b ∷ bytes) → HasPieces (b / 16) (b % 16) delta value tail bytes
option_pieces delta value tail b bytes h =
    let o = h.1 in
    let e : b ∷ bytes ≡ (16 * o.delta_nibble + o.length_nibble) ∷ ((o.delta_bytes ++ (o.length_bytes ++ value)) ++ tail) = h.2 ∙ ap (λ (z : List ℕ). z ++ tail) o.whole in
    let first : b ≡ 16 * o.delta_nibble + o.length_nibble = same_first _ _ _ _ e in
    let others : bytes ≡ (o.delta_bytes ++ (o.length_bytes ++ value)) ++ tail = same_others _ _ _ _ e in
    let small = nibble_small _ _ _ o.length_is in
    let high : o.delta_nibble ≡ b / 16 = omega arith in
    let low : o.length_nibble ≡ b % 16 = omega arith in
    record {
      delta_bytes = o.delta_bytes;
      length_bytes = o.length_bytes;
      delta_is = subst (λ (k : ℕ). Stands k o.delta_bytes delta) high o.delta_is;
      length_is = subst (λ (k : ℕ). Stands k o.length_bytes (length value)) low o.length_is;
      whole = others ∙ regroup o.delta_bytes o.length_bytes value tail;
    }

-- an option from its pieces
pub pieces_option : (delta : ℕ) (value tail : List ℕ) (b : ℕ) (bytes : List ℕ) → HasPieces (b / 16) (b % 16) delta value tail bytes → StartsWithOption delta value tail (b ∷ bytes)
pieces_option delta value tail b bytes h =
    let byte : b ≡ 16 * (b / 16) + b % 16 = omega arith in (
      (16 * (b / 16) + b % 16) ∷ (h.delta_bytes ++ (h.length_bytes ++ value)),
      record { delta_nibble = b / 16; length_nibble = b % 16; delta_bytes = h.delta_bytes; length_bytes = h.length_bytes; delta_is = h.delta_is; length_is = h.length_is; whole = refl },
      ap (λ (y : List ℕ). b ∷ y) (h.whole ∙ sym (regroup h.delta_bytes h.length_bytes value tail)) ∙ ap (λ (x : ℕ). x ∷ ((h.delta_bytes ++ (h.length_bytes ++ value)) ++ tail)) byte,
    )

-- a spelling's first option, and the spelling behind it
pub spells_first : (d : ℕ) (entry : Entry) (entries : List Entry) (bytes : List ℕ) → Spells d (entry ∷ entries) bytes → (tail : List ℕ) × Begins d entry tail bytes × Spells entry.0 entries tail
spells_first d entry entries [] h = absurd (nothing_starts _ _ h.2 h.3)
spells_first d entry entries (b ∷ bytes) h = (h.2, (h.0, h.1, option_pieces _ entry.1 h.2 b bytes h.3), h.4)

-- a spelling from its first option and the spelling behind it
pub spells_more : (d : ℕ) (entry : Entry) (entries : List Entry) (bytes tail : List ℕ) → Begins d entry tail bytes → Spells entry.0 entries tail → Spells d (entry ∷ entries) bytes
spells_more d entry entries [] tail h more = absurd h
spells_more d entry entries (b ∷ bytes) tail h more = (h.0, h.1, tail, pieces_option _ entry.1 tail b bytes h.2, more)
