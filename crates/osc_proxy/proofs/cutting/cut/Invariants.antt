use Rattle.std.proofs.Common.{◌≡◌, ◌++◌, ℕ, List, length}
use Rattle.osc_proxy.specs.Uri.{before, behind}
use Rattle.osc_proxy.proofs.cutting.cut.Given as goal

abbrev pub invariant-loop-first : goal.invariant-loop-first
invariant-loop-first l = record {
  cut : (done : List ℕ) × (l.fn.bytes ≡ done ++ l.rest) × (before l.fn.delimiter l.fn.bytes ≡ done ++ before l.fn.delimiter l.rest);
  same : behind l.fn.delimiter l.fn.bytes ≡ behind l.fn.delimiter l.rest;
}

abbrev pub decreases-loop-first : goal.decreases-loop-first
decreases-loop-first l = length l.rest
