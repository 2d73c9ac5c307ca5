-- A text that was made, and its line.
use Rattle.std.proofs.Common.{◌≡◌, ℕ, List, [], ◌∷◌, ◌++◌, codes, Option, Some, None, IfSome, Result, Ok, Err, IfOk, ap, subst, sym, ◌∙◌, append_assoc}
use Rattle.std.specs.Prelude.{IfErr, IsOkAnd}
use Rattle.osc_text.specs.EntryLines.{entry_line}
use Rattle.osc_text.specs.Lines.{refused_line, text_line}
use Rattle.osc_text.specs.Written.{Writes}
use Rattle.osc_text.specs.declared.fault.Fault.{Fault}

-- what follows of a value, where there is one
pub then_ok : {T E : Type 0} (r : Result T E) (P Q : T → Type 0) → IfOk r P → ((t : T) → P t → Q t) → IfOk r Q
then_ok (Ok t) P Q p q = q t p
then_ok (Err e) P Q p q = tt

-- a word and a text
pub named_is : {T E F : Type 0} (bytes : T → List ℕ) (word x : List ℕ) (text : Result T E) (whole : Result T F) → IfOk whole (λ w. IsOkAnd text (λ t. bytes w ≡ word ++ (codes " " ++ bytes t)))
    → IfOk text (λ t. bytes t ≡ x) → IfOk whole (λ w. bytes w ≡ word ++ (codes " " ++ x))
named_is bytes word x (Ok t) (Ok w) made is = made ∙ ap (λ (y : List ℕ). word ++ (codes " " ++ y)) is
named_is bytes word x (Err e) (Ok w) made is = absurd made
named_is bytes word x text (Err f) made is = tt

module _ {T E : Type 0} (bytes : T → List ℕ) (old new : Option (List ℕ)) (text : Result T E) (r : Result (Unit {0}) Fault)
    (written : IfOk text (λ t. Writes old new (entry_line (bytes t) ∷ []) r)) (failed : IfErr text (λ e. (lines : List (List ℕ)) → Writes old new lines r)) where
  -- the line of a text
  pub line_is : (x : List ℕ) → IfOk text (λ t. bytes t ≡ x) → Writes old new (entry_line x ∷ []) r
  line_is x is = made text is written failed
    where
      made : (t : Result T E) → IfOk t (λ y. bytes y ≡ x) → IfOk t (λ y. Writes old new (entry_line (bytes y) ∷ []) r) → IfErr t (λ e. (lines : List (List ℕ)) → Writes old new lines r) → Writes old new (entry_line x ∷ []) r
      made (Ok y) same w f = subst (λ (z : List ℕ). Writes old new (entry_line z ∷ []) r) same w
      made (Err e) same w f = f (entry_line x ∷ [])

  -- the line of a word and a text
  pub named_line : {F : Type 0} (word x : List ℕ) (behind : Result T F) → IfOk text (λ w. IsOkAnd behind (λ t. bytes w ≡ word ++ (codes " " ++ bytes t))) → IfOk behind (λ t. bytes t ≡ x)
      → Writes old new (text_line word x ∷ []) r
  named_line word x behind made is =
      subst (λ (l : List ℕ). Writes old new (l ∷ []) r) (append_assoc word (codes " " ++ x) (codes "\n")) (line_is (word ++ (codes " " ++ x)) (named_is bytes word x behind text made is))

  -- a line that is told by what stands behind its word
  pub behind_line : {F : Type 0} (word line : List ℕ) (behind : Result T F) → IfOk text (λ w. IsOkAnd behind (λ t. bytes w ≡ word ++ (codes " " ++ bytes t))) → IfOk behind (λ t. line ≡ text_line word (bytes t))
      → Writes old new (line ∷ []) r
  behind_line {F} word line behind made is = told text behind written failed made is
    where
      told : (w : Result T E) (b : Result T F) → IfOk w (λ y. Writes old new (entry_line (bytes y) ∷ []) r) → IfErr w (λ e. (lines : List (List ℕ)) → Writes old new lines r)
          → IfOk w (λ y. IsOkAnd b (λ t. bytes y ≡ word ++ (codes " " ++ bytes t))) → IfOk b (λ t. line ≡ text_line word (bytes t)) → Writes old new (line ∷ []) r
      told (Ok y) (Ok t) w f m s = subst (λ (l : List ℕ). Writes old new (l ∷ []) r) (ap entry_line m ∙ append_assoc word (codes " " ++ bytes t) (codes "\n") ∙ sym s) w
      told (Ok y) (Err e) w f m s = absurd m
      told (Err e) b w f m s = f (line ∷ [])

  -- the line of a refusal
  pub refusal_is : (name : Option (List ℕ)) → IfSome name (λ n. IfOk text (λ t. bytes t ≡ codes "refused: " ++ n)) → IfSome name (λ n. Writes old new (refused_line n ∷ []) r)
  refusal_is (Some n) is = line_is (codes "refused: " ++ n) is
  refusal_is None is = tt
