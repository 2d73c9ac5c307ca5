use Rattle.std.proofs.Common.{◌≡◌}
use Rattle.arrayvec.specs.ArrayVec.{array_vec_len}
use Rattle.osc_replies.specs.Memory.{others}
use Rattle.osc_replies.specs.Views.{memory_of}
use Rattle.osc_replies.proofs.replies.Replies.forget.Given as goal

abbrev pub invariant-loop-place : goal.invariant-loop-place
invariant-loop-place g l = others l.number (memory_of l.self) ≡ others l.number (memory_of l.initial.self)

abbrev pub decreases-loop-place : goal.decreases-loop-place
decreases-loop-place g l = array_vec_len l.self.entries
