use Rattle.std.proofs.Common.{◌≡◌, ◌≤◌, drop}
use Rattle.osc_proxy.specs.Uri.{number_from}
use Rattle.osc_proxy.proofs.uri.number_of.Given as goal

abbrev pub invariant-loop-digit : goal.invariant-loop-digit
invariant-loop-digit l = record {
  small : l.number ≤ 65535;
  same : number_from 0 l.fn.digits ≡ number_from l.number (drop l.digit-index l.digits);
}
