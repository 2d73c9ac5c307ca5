use Rattle.std.specs.Prelude.{map}
use Rattle.osc_message.specs.HearingViews.{seen_of}
use Rattle.osc_message.proofs.Oldest.{IsOldest}
use Rattle.osc_message.proofs.heard.find_oldest_done.Given as goal

-- the oldest among the places before
abbrev pub invariant-loop-place : goal.invariant-loop-place
invariant-loop-place l = IsOldest (map seen_of l.places) l.place l.oldest
