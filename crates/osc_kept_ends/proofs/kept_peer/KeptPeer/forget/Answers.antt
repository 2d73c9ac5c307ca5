use Rattle.std.proofs.Math.Logic.{∥∥₁_map}
use Rattle.osc_client.specs.ClientHistory as asked
use Rattle.osc_kept_ends.proofs.kept_peer.KeptPeer.forget.Goals as goal

pub invariant_of-self : goal.invariant_of-self
invariant_of-self g c = record {
  served = c.args.self.now.served;
  asked = ∥∥₁_map c.args.self.now.asked (λ x.
      (asked.Then x.0 (asked.Forget c.args.token.now) (asked.Forgot c.forget.result), record { agrees = c.forget.ensures.follows x.0 x.1.agrees; least = x.1.least }));
}
