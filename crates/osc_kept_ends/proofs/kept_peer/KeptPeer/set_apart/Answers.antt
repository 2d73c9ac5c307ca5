use Rattle.std.proofs.Math.Logic.{∥∥₁_map}
use Rattle.osc_client.specs.ClientHistory.{Then, IsSetApart, SetApart}
use Rattle.osc_client.specs.Views.{apart_among}
use Rattle.osc_kept_ends.proofs.kept_peer.KeptPeer.set_apart.Goals as goal

pub invariant_of-self : goal.invariant_of-self
invariant_of-self g c = record {
  served = c.args.self.now.served;
  asked = ∥∥₁_map c.args.self.now.asked (λ x.
      (Then x.0 (SetApart (apart_among g.row.N c.args.registrations)) IsSetApart, record { agrees = c.set_apart.ensures.follows x.0 x.1.agrees; least = x.1.least }));
}
