use Rattle.std.proofs.Common.{ap, sym, ◌∙◌}
use Rattle.std.specs.Prelude.{map}
use Rattle.osc_replies.specs.Memory.{others}
use Rattle.osc_replies.specs.Views.{kept_of, memory_of}
use Rattle.osc_replies.proofs.Keeping.{all_others, others_removed}
use Rattle.osc_replies.proofs.replies.Replies.forget.Goals as goal

pub loop-place-preserved : goal.loop-place-preserved
loop-place-preserved g c =
    let (k, there, same) = c.in-Some.ensures.found in
    ap (λ xs. others c.args.number (map kept_of xs)) c.remove-forgotten.ensures.items
    ∙ others_removed c.loop-place.self.entries.items c.in-Some.place c.args.number k there same ∙ c.loop-place.invariant

pub returns : goal.returns
returns g c = sym (all_others c.args.number (memory_of c.loop-place.self) c.in_default.ensures.none) ∙ c.loop-place.invariant
