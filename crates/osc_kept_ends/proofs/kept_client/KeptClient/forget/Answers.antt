use Rattle.std.proofs.Common.{refl}
use Rattle.std.proofs.Math.Logic.{∥∥₁_map}
use Rattle.osc_client.specs.ClientHistory.{Then, Forget, Forgot}
use Rattle.osc_kept_ends.proofs.kept_client.KeptClient.forget.Goals as goal

pub invariant_of-self : goal.invariant_of-self
invariant_of-self g c = record {
  kept = ∥∥₁_map c.args.self.now.kept (λ x.
      (Then x.0 (Forget c.args.token.now) (Forgot c.forget.result), record { agrees = c.forget.ensures.follows x.0 x.1.agrees; next_is = x.1.next_is }));
}

pub returns-clause-answered : goal.returns-clause-answered
returns-clause-answered g c = λ h k. record {
  row = c.forget.ensures.answered h k.agrees;
  kept = record { agrees = c.forget.ensures.follows h k.agrees; next_is = k.next_is };
  numbers = (_, refl, (tt, refl));
}
