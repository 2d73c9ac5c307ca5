use Rattle.std.proofs.Common.{◌∷◌, [], List, ℕ, ap, ap₂, ◌∙◌, refl}
use Rattle.osc_aes.specs.SubstitutionBox.{substitute}
use Rattle.osc_aes.proofs.WordRounds.{bytes-sum}
use Rattle.osc_aes.proofs.table.last_word.Goals as goal

pub returns : goal.returns
returns c =
    let before : ℕ → List ℕ → List ℕ = λ x xs. x ∷ xs in
    bytes-sum _ c.args.key _ _ (c.word_of.ensures
    ∙ ap₂ before (c.substituted-row0.ensures ∙ ap substitute c.byte3.ensures)
    (ap₂ before (c.substituted-row1.ensures ∙ ap substitute c.byte2.ensures)
    (ap₂ before (c.substituted-row2.ensures ∙ ap substitute c.byte1.ensures)
    (ap (λ (x : ℕ). x ∷ []) (c.substituted-row3.ensures ∙ ap substitute c.byte0.ensures))))) refl
