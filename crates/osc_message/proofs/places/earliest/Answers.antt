use Rattle.std.proofs.Common.{◌<◌, arith, inl, inr}
use Rattle.std.specs.Prelude.{Option, map}
use Rattle.std.proofs.lemmas.Bool.{cases_lt}
use Rattle.std.proofs.lemmas.Bool.Decides.{nat_tests}
use Rattle.osc_message.specs.Finding.{step_at_place}
use Rattle.osc_message.specs.Sending.{Sending}
use Rattle.osc_message.specs.Views.{place_of}
use Rattle.osc_message.specs.declared.exchange.Step.TheVariants.{Rest}
use Rattle.osc_message.proofs.OnTheirWay.{all_rest, rests_at}
use Rattle.osc_message.proofs.Walking.{reads, still}
use Rattle.osc_message.proofs.places.earliest.Goals as goal

pub loop-place-preserved : goal.loop-place-preserved
loop-place-preserved c = record {
  until = λ now i o less under there.
      let m = c.min-wake.ensures in
      let old : now < c.loop-place.wake = grind (arith, nat_tests, less, m) in
      let own : now < c.wake_at.result = grind (arith, nat_tests, less, m) in
      still place_of c.args.places.now (λ (p : Option Sending). step_at_place p now) Rest c.loop-place.place c.index-places-place.result (omega arith) c.index-places-place.is
      (c.wake_at.ensures.until now own) (λ j p. c.loop-place.invariant.until now j p old) i o under there;
  due = λ less now reached rests.
      let m = c.min-wake.ensures in
      let there = reads place_of c.args.places.now c.loop-place.place c.index-places-place.result (omega arith) c.index-places-place.is in
      elim (cases_lt c.loop-place.wake c.wake_at.result) [
        | inl first ↦ c.loop-place.invariant.due (omega (arith, m, less, first)) now (omega (arith, m, reached, first)) rests
        | inr last ↦ c.wake_at.ensures.due (omega (arith, m, less, last)) now (omega (arith, m, reached, last)) (rests_at (map place_of c.args.places.now) c.loop-place.place now _ rests there)
      ];
}

pub returns-clause-until : goal.returns-clause-until
returns-clause-until c = λ now less. all_rest c.args.places.now now c.loop-place.place (omega arith) (λ j p. c.loop-place.invariant.until now j p less)
