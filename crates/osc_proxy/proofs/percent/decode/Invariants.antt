use Rattle.std.proofs.Common.{◌≡◌, ◌++◌, length}
use Rattle.osc_proxy.specs.Uri.{decoded}
use Rattle.osc_proxy.proofs.percent.decode.Given as goal

abbrev pub invariant-loop-byte : goal.invariant-loop-byte
invariant-loop-byte l = record {
  same : decoded l.fn.lowers l.fn.part ≡ l.value.items ++ decoded l.fn.lowers l.rest;
}

abbrev pub decreases-loop-byte : goal.decreases-loop-byte
decreases-loop-byte l = length l.rest
