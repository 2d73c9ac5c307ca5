use Rattle.std.proofs.Common.{sym, ap}
use Rattle.std.proofs.lemmas.Grind.{merely}
use Rattle.osc_context.specs.Views.{as_client, number_of}
use Rattle.osc_client.specs.ClientHistory.{New}
use Rattle.osc_kept_ends.specs.Numbering.{upcoming}
use Rattle.osc_kept_ends.proofs.kept_client.KeptClient.start.Goals as goal

pub invariant_of-result : goal.invariant_of-result
invariant_of-result g c = record {
  kept = merely (
    New (as_client c.args.context) (number_of c.in-Ok.first) c.args.life_ms,
    record { agrees = c.new-client.ensures; next_is = sym (ap upcoming c.in-Ok.ensures.begins.1.1) },
  );
}
