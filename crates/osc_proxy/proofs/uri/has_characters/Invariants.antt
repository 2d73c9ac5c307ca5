use Rattle.std.proofs.Common.{◌≡◌, drop}
use Rattle.osc_proxy.specs.Uri.{are_characters}
use Rattle.osc_proxy.proofs.uri.has_characters.Given as goal

abbrev pub invariant-loop-byte : goal.invariant-loop-byte
invariant-loop-byte l = record {
  same : are_characters 0 l.fn.uri ≡ are_characters l.due (drop l.byte-index l.uri);
}
