use Rattle.std.proofs.Common.{[], drop}
use Rattle.osc_endpoint.specs.Agrees.{Agrees}
use Rattle.osc_endpoint.specs.ServerRun.{values_in}
use Rattle.osc_text.specs.ReplaceReading.{IsServed, served_seen}
use Rattle.osc_text.specs.RunEnds.{serving_state}
use Rattle.osc_text.specs.Serving.{ServerLine}
use Rattle.osc_text.proofs.EachLines.{EachSoFar}
use Rattle.osc_text.proofs.serving.ServingEndEnd.print.Given as goal

abbrev pub invariant-loop-event : goal.invariant-loop-event
invariant-loop-event g l =
    EachSoFar served_seen IsServed ServerLine (Agrees l.fn.self.server) (serving_state l.fn.self []) (Agrees l.self.server) (serving_state l.self (values_in l.memory.items)) l.fn.events (drop l.event-index l.events) (g.W.Write.contents l.fn.out) (g.W.Write.contents l.out)
