use Rattle.std.proofs.Common.{◌<◌, ◌∙◌, ap, sym, arith, false, inl, inr, Some}
use Rattle.std.specs.Prelude.{Option}
use Rattle.std.proofs.lemmas.Bool.{cases_lt, true≢false}
use Rattle.std.proofs.lemmas.Bool.Decides.{nat_tests}
use Rattle.osc_message.specs.Hearing.{Heard, is_due}
use Rattle.osc_message.specs.HearingViews.{seen_of}
use Rattle.osc_message.specs.Slots.{holds}
use Rattle.osc_message.proofs.Walking.{held, none_passes, reads, still}
use Rattle.osc_message.proofs.heard.earliest_due.Goals as goal

pub loop-place-preserved : goal.loop-place-preserved
loop-place-preserved c = record {
  until = λ now i o less under there.
      let m = c.min-wake.ensures in
      let old : now < c.loop-place.wake = grind (arith, nat_tests, less, m) in
      let own : now < c.wake_at.result = grind (arith, nat_tests, less, m) in
      still seen_of c.args.places.now (λ (p : Option Heard). holds (is_due now) p) false c.loop-place.place c.index-places-place.result (omega arith) c.index-places-place.is
      (c.wake_at.ensures.until now own) (λ j p. c.loop-place.invariant.until now j p old) i o under there;
  due = λ less now reached none.
      let m = c.min-wake.ensures in
      let there = reads seen_of c.args.places.now c.loop-place.place c.index-places-place.result (omega arith) c.index-places-place.is in
      elim (cases_lt c.loop-place.wake c.wake_at.result) [
        | inl first ↦ c.loop-place.invariant.due (omega (arith, m, less, first)) now (omega (arith, m, reached, first)) none
        | inr last ↦
            let found = held (is_due now) _ (c.wake_at.ensures.due (omega (arith, m, less, last)) now (omega (arith, m, reached, last))) in
            true≢false (sym found.2 ∙ none c.loop-place.place found.0 (there ∙ ap Some found.1))
      ];
}

pub returns-clause-until : goal.returns-clause-until
returns-clause-until c = λ now less. none_passes seen_of (is_due now) c.args.places.now c.loop-place.place (omega arith) (λ j p. c.loop-place.invariant.until now j p less)
