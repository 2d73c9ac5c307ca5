use Rattle.std.proofs.Common.{length}
use Rattle.osc_coap.proofs.Walks.{Continues}
use Rattle.osc_coap.proofs.body.options_len.Given as goal

abbrev pub invariant-loop-rest : goal.invariant-loop-rest
invariant-loop-rest l = Continues l.bytes l.number l.rest

abbrev pub decreases-loop-rest : goal.decreases-loop-rest
decreases-loop-rest l = length l.rest
