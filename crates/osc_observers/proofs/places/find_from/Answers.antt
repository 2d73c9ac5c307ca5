use Rattle.std.proofs.Common.{◌∙◌, ap, sym, arith, Some}
use Rattle.osc_observers.specs.Views.{place_of, watching_of}
use Rattle.osc_observers.proofs.Listed.{found_some, still_free, still_none, whole_from}
use Rattle.osc_message.proofs.Walking.{reads}
use Rattle.osc_observers.proofs.places.find_from.Goals as goal

pub returns-then-is_some : goal.returns-then-is_some
returns-then-is_some c =
    let found = found_some watching_of c.index-places-place.result (sym c.is_some.ensures ∙ c.if-is_some.true) in
    let there = reads place_of c.args.places.now c.loop-place.place c.index-places-place.result (omega arith) c.index-places-place.is ∙ ap Some found.1 in
    (found.0, there, omega arith, λ i y from under at. still_none c.args.places.now c.args.first c.loop-place.place c.loop-place.invariant i y from under at)

pub loop-place-preserved : goal.loop-place-preserved
loop-place-preserved c =
    still_free c.args.places.now c.args.first c.loop-place.place c.index-places-place.result (omega arith) c.index-places-place.is (sym c.is_some.ensures ∙ c.if-is_some.false) c.loop-place.invariant

pub returns : goal.returns
returns c = whole_from c.args.places.now c.args.first c.loop-place.place (omega arith) c.loop-place.invariant
