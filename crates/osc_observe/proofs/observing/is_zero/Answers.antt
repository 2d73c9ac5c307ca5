use Rattle.std.proofs.Common.{◌≡◌, ◌∙◌, ◌&&◌, ap, refl, rules, tests, ℕ, List, [], ◌∷◌}
use Rattle.std.specs.Prelude.{◌==◌}
use Rattle.std.specs.List.{list_all}
use Rattle.std.proofs.lemmas.Iterator.{YieldsList-from_slice}
use Rattle.std.proofs.lemmas.Iterator.Search.{all_from_yields_List}
use Rattle.osc_observe.specs.Observing.{is_zero as zero}
use Rattle.osc_observe.proofs.observing.is_zero.Goals as goal

all_zero : (bytes : List ℕ) → list_all (λ byte. byte == 0) bytes ≡ zero bytes
all_zero [] = refl
all_zero (byte ∷ bytes) = ap (λ b. (byte == 0) && b) (all_zero bytes)

pub returns : goal.returns
returns c = all_from_yields_List (λ byte. byte == 0) _ _ c.all.result c.all.ensures.ran (YieldsList-from_slice c.args.value.now cc) (λ x b q k. search (rules, tests)) ∙ all_zero c.args.value.now
