use Rattle.std.proofs.Common.{◌≡◌, ◌≢◌, ◌∷◌, ◌++◌, [], ℕ, List, ap₂, sym, ◌∙◌}
use Rattle.osc_context.specs.OscoreValue.{flag_byte, OscoreParts}
use Rattle.osc_context.specs.Views.{oscore_parts_of}
use Rattle.osc_context.proofs.WrittenValues.{written_empty, written_some}
use Rattle.osc_context.proofs.oscore_option.OscoreOption.put.Goals as goal

pub returns-then-flag-ne0 : goal.returns-then-flag-ne0
returns-then-flag-ne0 c =
    let p : OscoreParts = oscore_parts_of c.args.self.now in
    let some : flag_byte p ≢ 0 = λ z. c.if-flag-ne0.true (c.flag_byte-flag.ensures.value ∙ z) in
    let first : c.push.new.self.items ≡ flag_byte p ∷ [] = c.push.ensures.items ∙ ap₂ (λ (l : List ℕ) (f : ℕ). l ++ f ∷ []) c.clear.ensures c.flag_byte-flag.ensures.value in
    written_some p _ _ _ _ c.flag_byte-flag.ensures.number some first c.push_piv.ensures c.push_kid_context.ensures c.push_kid.ensures c.requires

pub returns-else-flag-ne0 : goal.returns-else-flag-ne0
returns-else-flag-ne0 c = written_empty _ _ c.flag_byte-flag.ensures.number (sym c.flag_byte-flag.ensures.value ∙ c.if-flag-ne0.false) c.clear.ensures
