use Rattle.std.proofs.Common.{◌≡◌, ◌≤◌, length, take}
use Rattle.osc_client.specs.ClientAnswer.{of_kind}
use Rattle.osc_client.proofs.waiting.count_of_kind.Given as goal

abbrev pub invariant-loop-place : goal.invariant-loop-place
invariant-loop-place g l = (l.count ≡ length (of_kind l.registering (take l.place (g.W.Waiting.requests l.pending)))) × (l.count ≤ l.place)
