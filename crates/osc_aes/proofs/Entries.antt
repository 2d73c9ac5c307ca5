-- The written tables against the definitions, by computation.
use Rattle.std.proofs.Common.{◌≡◌, ℕ, ◌+◌, ◌-◌, ◌*◌, ◌/◌, ◌%◌, ◌^◌, ◌<◌, List, [], ◌∷◌, refl, ap, ◌∙◌, sym, get_or, map, bit_and, bit_xor, arith, w32}
use Rattle.std.specs.Int.{to_be_bytes}
use Rattle.std.specs.List.{range_with_len}
use Rattle.std.proofs.lemmas.Nat.{and_mask}
use Rattle.std.proofs.lemmas.List.FromFn.{get_or-map-range_with_len}
use Rattle.osc_aes.specs.Field.{mul, power, product_of_squares, inverse}
use Rattle.osc_aes.specs.SubstitutionBox.{substitute}
use Rattle.osc_aes.specs.RoundWords.{round_word}
use Rattle.osc_aes.specs.declared.substitution_box.TheConstants.{SUBSTITUTION_BOX}
use Rattle.osc_aes.specs.declared.key_schedule.TheConstants.{ROUND_CONSTANTS}
use Rattle.osc_aes.specs.declared.round_words.TheConstants.{TABLE}

-- a table that lists f has f x at x
table_entry : (f : ℕ → ℕ) (n : ℕ) (table : List ℕ) → table ≡ map f (range_with_len 0 n) → (x : ℕ) → x < n → get_or table x 0 ≡ f x
table_entry f n table e x lt = ap (λ (s : List ℕ). get_or s x 0) e ∙ get_or-map-range_with_len f 0 n x x 0 lt (omega arith)

-- two functions with one list of values from a on agree there
same_values : {X : Type 0} (f g : ℕ → X) (a n : ℕ) → map f (range_with_len a n) ≡ map g (range_with_len a n) → (i x : ℕ) → i < n → x ≡ a + i → f x ≡ g x
same_values f g a n e i x lt at =
    sym (get_or-map-range_with_len f a n i x (f x) lt (sym at)) ∙ ap (λ s. get_or s i (f x)) e ∙ get_or-map-range_with_len g a n i x (f x) lt (sym at)

-- two functions with one list of values agree on each byte
pub same_on_bytes : {X : Type 0} (f g : ℕ → X) → map f (range_with_len 0 256) ≡ map g (range_with_len 0 256) → (x : ℕ) → x < 256 → f x ≡ g x
same_on_bytes f g e x lt = same_values f g 0 256 e x x lt (omega arith)

-- ---- the field

-- 02 times each byte by a shift
doubles : map (λ b. bit_xor (b * 2 ^ 1 % 2 ^ 8) (b / 2 ^ 7 * 0x1b)) (range_with_len 0 256) ≡ map (mul 2) (range_with_len 0 256)
unfolding mul
doubles = refl

-- 02 times a byte by a shift
pub double-is : (b : ℕ) → b < 256 → bit_xor (b * 2 ^ 1 % 2 ^ 8) (b / 2 ^ 7 * 0x1b) ≡ mul 2 b
double-is = same_on_bytes _ (mul 2) doubles

-- 03 times each byte by its double
triples : map (λ b. bit_xor (mul 2 b) b) (range_with_len 0 256) ≡ map (mul 3) (range_with_len 0 256)
unfolding mul
triples = refl

-- 03 times a byte by its double
pub triple-is : (b : ℕ) → b < 256 → bit_xor (mul 2 b) b ≡ mul 3 b
triple-is = same_on_bytes _ (mul 3) triples

-- each element but 0 times its inverse
products_with_inverses : map (λ b. mul b (inverse b)) (range_with_len 1 255) ≡ map (λ _. 1) (range_with_len 1 255)
unfolding mul power product_of_squares inverse
products_with_inverses = refl

-- each element but 0 times its inverse
pub mul-inverse : (a : ℕ) → 0 < a → a < 256 → mul a (inverse a) ≡ 1
mul-inverse a low high =
    same_values (λ b. mul b (inverse b)) (λ _. 1) 1 255 products_with_inverses (a - 1) a (omega arith) (omega arith)

-- ---- the substitution box and the round constants

-- the whole box
substitution_box_values : SUBSTITUTION_BOX ≡ map substitute (range_with_len 0 256)
unfolding mul power product_of_squares inverse substitute
substitution_box_values = refl

-- the substitution box, entry by entry
pub substitution_box-entry : (b : ℕ) → b < 256 → get_or SUBSTITUTION_BOX b 0 ≡ substitute b
substitution_box-entry = table_entry substitute 256 SUBSTITUTION_BOX substitution_box_values

-- all ten
round_constant_values : ROUND_CONSTANTS ≡ map (power 2) (range_with_len 0 10)
unfolding mul power
round_constant_values = refl

-- the round constants, entry by entry
pub round_constants-entry : (j : ℕ) → j < 10 → get_or ROUND_CONSTANTS j 0 ≡ power 2 j
round_constants-entry = table_entry (power 2) 10 ROUND_CONSTANTS round_constant_values

-- ---- the table of a round

-- the whole table
table_values : TABLE ≡ map round_word (range_with_len 0 256)
unfolding mul power product_of_squares inverse substitute round_word
table_values = refl

-- the table, entry by entry
pub table-entry : (b : ℕ) → b < 256 → get_or TABLE b 0 ≡ round_word b
table-entry = table_entry round_word 256 TABLE table_values

-- the column that a byte of row 0 becomes
abbrev pub column_of_byte : ℕ → List ℕ
column_of_byte b = mul 2 (substitute b) ∷ substitute b ∷ substitute b ∷ mul 3 (substitute b) ∷ []

-- the bytes of all words of the table
table_columns : map (λ b. to_be_bytes w32 (round_word b)) (range_with_len 0 256) ≡ map column_of_byte (range_with_len 0 256)
unfolding mul power product_of_squares inverse substitute round_word
table_columns = refl

-- the bytes of the word for byte b, which is x
pub table-column : (w b x : ℕ) → w ≡ round_word b → b < 256 → b ≡ x → to_be_bytes w32 w ≡ column_of_byte x
table-column w b x e lt same =
    ap (to_be_bytes w32) e ∙ same_on_bytes (λ n. to_be_bytes w32 (round_word n)) column_of_byte table_columns b lt ∙ ap column_of_byte same

-- the word for byte b has the substituted byte in row 2
pub row2-substituted : (w b : ℕ) → w ≡ round_word b → b < 256 → bit_and (w / 2 ^ 8) 255 ≡ substitute b
row2-substituted w b e lt =
    and_mask (w / 2 ^ 8) 8 ∙ ap (λ (bytes : List ℕ). get_or bytes 2 0) (table-column w b b e lt refl)
