use Rattle.std.proofs.Math.Logic.{∥∥₁_map}
use Rattle.osc_client.specs.ClientHistory.{Then, Datagram, Took}
use Rattle.osc_kept_ends.proofs.kept_client.KeptClient.decide.Goals as goal

pub invariant_of-self : goal.invariant_of-self
invariant_of-self g c = record {
  kept = ∥∥₁_map c.args.self.now.kept (λ x.
      let d = c.decide.ensures.answered x.0 x.1.agrees in
      (Then x.0 (Datagram c.args.now c.args.datagram.now) (Took d.answer), record { agrees = d.agrees; next_is = x.1.next_is }));
}
