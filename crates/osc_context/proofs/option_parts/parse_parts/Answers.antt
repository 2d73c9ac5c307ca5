use Rattle.std.proofs.Common.{◌≡◌, ◌++◌, sym, ap₂, ◌∙◌, List, ℕ}
use Rattle.std.proofs.lemmas.List.{take-append-drop}
use Rattle.std.proofs.lemmas.Nat.{and_mask}
use Rattle.osc_context.proofs.FrontLens.{cut_short}
use Rattle.osc_context.proofs.option_parts.parse_parts.Goals as goal

pub returns-in_default-clause-cut : goal.returns-in_default-clause-cut
returns-in_default-clause-cut c =
    let whole : c.args.bytes.now ≡ c.split_at.result.0.now ++ c.split_at.result.1.now = sym (ap₂ (λ (s t : List ℕ). s ++ t) c.split_at.ensures.front c.split_at.ensures.back ∙ take-append-drop _ c.args.bytes.now) in
    cut_short c.args.flag c.args.bytes.now _ _ whole (c.split_at.ensures.front_len ∙ and_mask c.args.flag 3) c.in_default.ensures.cut
