use Rattle.std.proofs.Math.Logic.{∥∥₁_map}
use Rattle.osc_client.specs.ClientHistory as asked
use Rattle.osc_kept_ends.proofs.kept_peer.KeptPeer.hear.Goals as goal

pub invariant_of-self : goal.invariant_of-self
invariant_of-self g c = record {
  served = c.args.self.now.served;
  asked = ∥∥₁_map c.args.self.now.asked (λ x.
      let d = c.take.ensures.answered x.0 x.1.agrees in
      (asked.Then x.0 (asked.Datagram c.args.now c.args.datagram.now) (asked.Took d.answer), record { agrees = d.agrees; least = x.1.least }));
}
