use Rattle.std.proofs.Common.{refl}
use Rattle.std.proofs.Math.Logic.{∥∥₁_map}
use Rattle.osc_client.specs.ClientHistory.{Then, IsSetApart, SetApart}
use Rattle.osc_client.specs.Views.{apart_among}
use Rattle.osc_kept_ends.proofs.kept_client.KeptClient.set_apart.Goals as goal

pub invariant_of-self : goal.invariant_of-self
invariant_of-self g c = record {
  kept = ∥∥₁_map c.args.self.now.kept (λ x.
      (Then x.0 (SetApart (apart_among g.row.N c.args.registrations)) IsSetApart, record { agrees = c.set_apart.ensures.follows x.0 x.1.agrees; next_is = x.1.next_is }));
}

pub returns-clause-answered : goal.returns-clause-answered
returns-clause-answered g c = λ h k. record {
  row = tt;
  kept = record { agrees = c.set_apart.ensures.follows h k.agrees; next_is = k.next_is };
  numbers = (_, refl, (tt, refl));
}
