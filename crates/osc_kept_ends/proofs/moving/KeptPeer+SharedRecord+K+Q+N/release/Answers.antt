use Rattle.std.proofs.Math.Logic.{∥∥₁_map}
use Rattle.osc_kept_ends.specs.Numbering.{upcoming}
use Rattle.osc_kept_ends.specs.PeerOwning.{own_in}
use Rattle.osc_kept_ends.proofs.PeerSteps.{client_at, server_at}
use Rattle.osc_kept_ends.proofs.moving.KeptPeer+SharedRecord+K+Q+N.release.Goals as goal

pub invariant_of-self : goal.invariant_of-self
invariant_of-self g c =
    let old = upcoming (own_in c.args.self.now.source) in
    let new = upcoming (own_in c.release.new.self) in
    record {
      served = ∥∥₁_map c.args.self.now.served (λ x. (x.0, server_at c.args.self.now.server x.0 old new c.release.ensures.next x.1));
      asked = ∥∥₁_map c.args.self.now.asked (λ x. (x.0, client_at c.args.self.now.client x.0 old new c.release.ensures.next x.1));
    }
