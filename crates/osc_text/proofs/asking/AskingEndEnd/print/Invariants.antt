use Rattle.std.proofs.Common.{drop}
use Rattle.osc_client.specs.Agrees.{ClientAgrees}
use Rattle.osc_text.specs.Asking.{ClientLine}
use Rattle.osc_text.specs.ReplaceReading.{IsAsked, asking_seen}
use Rattle.osc_text.specs.RunEnds.{asking_state}
use Rattle.osc_text.proofs.EachLines.{EachSoFar}
use Rattle.osc_text.proofs.asking.AskingEndEnd.print.Given as goal

abbrev pub invariant-loop-event : goal.invariant-loop-event
invariant-loop-event g l =
    EachSoFar asking_seen IsAsked ClientLine (ClientAgrees l.fn.self.client) (asking_state l.fn.self) (ClientAgrees l.self.client) (asking_state l.self) l.fn.events (drop l.event-index l.events) (g.W.Write.contents l.fn.out) (g.W.Write.contents l.out)
