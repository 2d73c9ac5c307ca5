use Rattle.std.proofs.Common.{◌≡◌, ℕ, ◌<◌, Some}
use Rattle.std.specs.Prelude.{slice_get}
use Rattle.osc_context.specs.Views.{number_of}
use Rattle.osc_replies.specs.Asked.{IsAnswered}
use Rattle.osc_replies.specs.Memory.{Kept}
use Rattle.osc_replies.specs.Views.{memory_of}
use Rattle.osc_replies.proofs.replies.Replies.find.Given as goal

abbrev pub invariant-loop-place : goal.invariant-loop-place
invariant-loop-place g l = (i : ℕ) (k : Kept) → i < l.place → slice_get (memory_of l.self) i ≡ Some k
    → IsAnswered k (number_of l.identity.number) l.identity.option.now l.identity.text.now → ⊥
