use Rattle.std.proofs.Math.Logic.{∥∥₁_map}
use Rattle.osc_client.specs.ClientHistory as asked
use Rattle.osc_life.specs.ServerHistory as served
use Rattle.osc_kept_ends.proofs.kept_peer.KeptPeer.advance.Goals as goal

pub invariant_of-self : goal.invariant_of-self
invariant_of-self g c = record {
  served = ∥∥₁_map c.args.self.now.served (λ x. (
    served.Then x.0 (served.Advance c.args.now) served.Advanced,
    record { agrees = c.advance.ensures x.0 x.1.agrees; one = x.1.one; reached = x.1.reached; reached_is = x.1.reached_is; least = x.1.least },
  ));
  asked = ∥∥₁_map c.args.self.now.asked (λ x.
      (asked.Then x.0 (asked.Advance c.args.now) asked.Advanced, record { agrees = c.advance-2.ensures.follows x.0 x.1.agrees; least = x.1.least }));
}
