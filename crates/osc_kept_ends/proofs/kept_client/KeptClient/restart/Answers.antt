use Rattle.std.proofs.Common.{◌∙◌, sym, ap}
use Rattle.std.proofs.Math.Logic.{∥∥₁_map}
use Rattle.osc_context.specs.Views.{number_of}
use Rattle.osc_client.specs.ClientHistory.{Then, Restart, Restarted}
use Rattle.osc_kept_ends.specs.Numbering.{upcoming}
use Rattle.osc_kept_ends.proofs.kept_client.KeptClient.restart.Goals as goal

pub invariant_of-self : goal.invariant_of-self
invariant_of-self g c = record {
  kept = ∥∥₁_map c.args.self.now.kept (λ x. (x.0, record { agrees = x.1.agrees; next_is = x.1.next_is ∙ sym (ap upcoming c.reload.ensures.left.0) }));
}

pub invariant_of-self-2 : goal.invariant_of-self-2
invariant_of-self-2 g c =
    let first = number_of c.in-Ok.loaded.1 in
    record {
      kept = ∥∥₁_map c.args.self.now.kept (λ x. (
        Then x.0 (Restart first) Restarted,
        record { agrees = c.restart.ensures x.0 x.1.agrees; next_is = sym (ap upcoming c.begin.ensures.numbers ∙ c.in-Ok.ensures.begins.1) },
      ));
    }
