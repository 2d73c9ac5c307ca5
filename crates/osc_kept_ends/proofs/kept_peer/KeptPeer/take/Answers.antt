use Rattle.std.proofs.Common.{◌<◌, ◌≤◌, arith, inl, inr, refl, subst}
use Rattle.std.proofs.lemmas.Bool.{cases_lt}
use Rattle.std.proofs.lemmas.Grind.{not_there}
use Rattle.osc_life.specs.Views.{Shows, values_of}
use Rattle.osc_life.specs.declared.outcome.Outcome.{Outcome}
use Rattle.osc_kept_ends.specs.PeerOwning.{ahead_in, received_in}
use Rattle.osc_kept_ends.specs.Peering.{received_at}
use Rattle.osc_kept_ends.proofs.PeerSteps.{shown_below, shown_received, takes_below}
use Rattle.osc_kept_ends.proofs.kept_peer.KeptPeer.take.Goals as goal

pub returns-in-Ok-clause-answered : goal.returns-in-Ok-clause-answered
returns-in-Ok-clause-answered g c = λ differs h b.
    let p = c.in-Ok.ensures.answered h b in
    record {
      g = p.g;
      passes = p.passes;
      mid = p.mid;
      takes = record { answer = p.decides.answer; shows = c.outcome-outcome.ensures.shows p.decides.answer p.decides.decides; step = p.decides.step };
      kept_on = p.kept_on;
    }

pub returns-in-Ok-clause-kept : goal.returns-in-Ok-clause-kept
returns-in-Ok-clause-kept g c =
    let floor = g.R.RecordKeeper.received_floor c.decide.new.self.source.keeper in
    takes_below c.outcome-outcome.result floor (λ o t is. elim (cases_lt (values_of t).number floor) [
      | inl less ↦ less
      | inr most ↦ absurd (not_there c.args.self.now.served (λ x.
          let p = c.in-Ok.ensures.answered x.0 x.1 in
          let less : (values_of t).number < floor = shown_below c.in-Ok.field-0.decision c.decide.new.datagram o t p.decides.answer floor p.decides.decides
          (subst (λ (z : Outcome). Shows z p.decides.answer) is (c.outcome-outcome.ensures.shows p.decides.answer p.decides.decides)) c.in-Ok.ensures.kept in
          omega (arith, most, less)))
    ])

pub returns-in-Ok-clause-received : goal.returns-in-Ok-clause-received
returns-in-Ok-clause-received g c =
    let source = c.args.self.now.source in
    let known = received_in c.decide.new.self.source in
    let most = received_at (ahead_in source) (received_in source) c.outcome-outcome.result in
    elim (cases_lt most known) [
      | inl more ↦ absurd (not_there c.args.self.now.served (λ x.
          let p = c.in-Ok.ensures.answered x.0 x.1 in
          let least : known ≤ most = shown_received (ahead_in source) (received_in source) known c.in-Ok.field-0.decision c.decide.new.datagram c.outcome-outcome.result p.decides.answer p.decides.decides
          (c.outcome-outcome.ensures.shows p.decides.answer p.decides.decides) c.in-Ok.ensures.received in
          omega (arith, more, least)))
      | inr least ↦ least
    ]

pub returns-in-Err-clause-waits : goal.returns-in-Err-clause-waits
returns-in-Err-clause-waits g c = λ failed h b. c.in-Err.ensures.waits refl h b
