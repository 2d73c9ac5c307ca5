use Rattle.std.proofs.Common.{◌≡◌, ◌≤◌, ap, arith, false, refl, true}
use Rattle.std.proofs.Math.Logic.{∥∥₁_map}
use Rattle.osc_kept_ends.specs.Numbering.{upcoming}
use Rattle.osc_kept_ends.specs.PeerOwning.{own_in}
use Rattle.osc_kept_ends.specs.SharedOwning.{own_from}
use Rattle.osc_kept_ends.proofs.PeerSteps.{client_still, server_still}
use Rattle.osc_kept_ends.proofs.SharedLemmas.{false_if}
use Rattle.osc_kept_ends.proofs.moving.KeptPeer+SharedRecord+K+Q+N.adopt.Goals as goal

pub invariant_of-self : goal.invariant_of-self
invariant_of-self g c =
    let old = upcoming (own_in c.args.self.now.source) in
    let new = upcoming (own_in c.adopt.new.self) in
    let carried : upcoming (own_in c.adopt.new.self) ≡ upcoming (own_from c.args.source) = ap upcoming c.adopt.ensures.carried in
    let less : old ≤ new = omega (arith, carried, c.upcoming.ensures, c.upcoming-2.ensures) in
    record {
      served = ∥∥₁_map c.args.self.now.served (λ x. (x.0, server_still c.args.self.now.server x.0 old new less x.1));
      asked = ∥∥₁_map c.args.self.now.asked (λ x. (x.0, client_still c.args.self.now.client x.0 old new less x.1));
    }

pub returns-then-not-is_same-clause-refused : goal.returns-then-not-is_same-clause-refused
returns-then-not-is_same-clause-refused g c = λ e. let f : false ≡ true = c.if-not-is_same.ensures.1 e in cc

pub returns-then-has_source-clause-refused : goal.returns-then-has_source-clause-refused
returns-then-has_source-clause-refused g c = (c.if-not-is_same.ensures.0 refl, c.if-has_source.ensures.0 refl)

pub returns-then-upcoming-clause-refused : goal.returns-then-upcoming-clause-refused
returns-then-upcoming-clause-refused g c = (c.if-not-is_same.ensures.0 refl, false_if _ c.if-has_source.ensures.1, omega (arith, c.upcoming.ensures, c.upcoming-2.ensures))

pub returns-clause-accepted : goal.returns-clause-accepted
returns-clause-accepted g c = λ ok. record {
  same_key = c.if-not-is_same.ensures.0 refl;
  rests = false_if _ c.if-has_source.ensures.1;
  least = omega (arith, c.upcoming.ensures, c.upcoming-2.ensures);
}
