use Rattle.std.proofs.Common.{refl}
use Rattle.std.proofs.Math.Logic.{∥∥₁_map}
use Rattle.osc_client.specs.ClientHistory.{Then, Advance, Advanced}
use Rattle.osc_kept_ends.proofs.kept_client.KeptClient.advance.Goals as goal

pub invariant_of-self : goal.invariant_of-self
invariant_of-self g c = record {
  kept = ∥∥₁_map c.args.self.now.kept (λ x. (Then x.0 (Advance c.args.now) Advanced, record { agrees = c.advance.ensures.follows x.0 x.1.agrees; next_is = x.1.next_is }));
}

pub returns-clause-advanced : goal.returns-clause-advanced
returns-clause-advanced g c = λ h k. record {
  row = tt;
  kept = record { agrees = c.advance.ensures.follows h k.agrees; next_is = k.next_is };
  numbers = (_, refl, (tt, refl));
}
