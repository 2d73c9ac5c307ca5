use Rattle.osc_text.proofs.FollowedLines.{RanSoFar}
use Rattle.osc_text.proofs.following.follow_input.Given as goal

abbrev pub invariant-loop-good : goal.invariant-loop-good
invariant-loop-good g l =
    RanSoFar g.E.End.is_new g.E.End.does g.E.Event.LineEvent.spells l.fn.end l.end l.memory (g.R.Read.remaining l.fn.input) (g.R.Read.remaining l.input) (g.W.Write.contents l.fn.out) (g.W.Write.contents l.out) l.good
