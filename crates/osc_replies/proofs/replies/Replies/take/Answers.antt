use Rattle.std.proofs.Common.{◌<◌, arith, inl, inr, refl, subst}
use Rattle.std.proofs.lemmas.Bool.{cases_lt}
use Rattle.std.proofs.lemmas.Grind.{not_there}
use Rattle.osc_life.specs.Views.{Shows, values_of}
use Rattle.osc_life.specs.declared.outcome.Outcome.{Outcome}
use Rattle.osc_kept_ends.proofs.PeerSteps.{shown_below, takes_below}
use Rattle.osc_replies.proofs.Copies.{if_decided}
use Rattle.osc_replies.proofs.replies.Replies.take.Goals as goal

pub returns-in-Ok-Decided-clause-answered : goal.returns-in-Ok-Decided-clause-answered
returns-in-Ok-Decided-clause-answered g c = λ differs h b.
    let p = if_decided _ c.in-Ok-Decided.field-0-0 _ c.in-Ok-Decided.field-0-is c.in-Ok-Decided.ensures.answered h b in
    record {
      g = p.g;
      passes = p.passes;
      mid = p.mid;
      takes = record { answer = p.decides.answer; shows = c.outcome-outcome.ensures.shows p.decides.answer p.decides.decides; step = p.decides.step };
      kept_on = p.kept_on;
    }

pub returns-in-Ok-Decided-clause-kept : goal.returns-in-Ok-Decided-clause-kept
returns-in-Ok-Decided-clause-kept g c =
    let floor = g.R.RecordKeeper.received_floor c.decide.new.peer.source.keeper in
    takes_below c.outcome-outcome.result floor (λ o t is. elim (cases_lt (values_of t).number floor) [
      | inl less ↦ less
      | inr most ↦ absurd (not_there c.args.peer.now.served (λ x.
          let p = if_decided _ c.in-Ok-Decided.field-0-0 _ c.in-Ok-Decided.field-0-is c.in-Ok-Decided.ensures.answered x.0 x.1 in
          let less : (values_of t).number < floor = shown_below c.in-Ok-Decided.field-0-0.decision c.decide.new.datagram o t p.decides.answer floor p.decides.decides
          (subst (λ (z : Outcome). Shows z p.decides.answer) is (c.outcome-outcome.ensures.shows p.decides.answer p.decides.decides)) (if_decided _ c.in-Ok-Decided.field-0-0 _ c.in-Ok-Decided.field-0-is c.in-Ok-Decided.ensures.kept) in
          omega (arith, most, less)))
    ])

pub returns-in-Err-clause-waits : goal.returns-in-Err-clause-waits
returns-in-Err-clause-waits g c = λ e h b. c.in-Err.ensures.waits refl h b
