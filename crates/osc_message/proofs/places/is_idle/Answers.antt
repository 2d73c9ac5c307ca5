use Rattle.std.proofs.Common.{◌∙◌, ap, sym, arith, rules, Some, false}
use Rattle.std.specs.Prelude.{Option}
use Rattle.osc_message.specs.Slots.{holds}
use Rattle.osc_message.specs.Sending.{Sending, is_unacknowledged}
use Rattle.osc_message.specs.Views.{place_of}
use Rattle.osc_message.proofs.Walking.{held, none_passes, reads, still}
use Rattle.osc_message.proofs.places.is_idle.Goals as goal

pub returns-then-is_unacknowledged_at-clause-no : goal.returns-then-is_unacknowledged_at-clause-no
returns-then-is_unacknowledged_at-clause-no c = λ no none.
    let o = c.index-places-place.result in
    let found = held (is_unacknowledged c.args.to.now) (place_of o) (sym c.is_unacknowledged_at.ensures ∙ search rules) in
    let there = reads place_of c.args.places.now c.loop-place.place o (omega arith) c.index-places-place.is ∙ ap Some found.1 in
    let passes = none c.loop-place.place found.0 there in
    let it = found.2 in
    grind (arith, passes, it)

pub loop-place-preserved : goal.loop-place-preserved
loop-place-preserved c =
    let passes = is_unacknowledged c.args.to.now in
    still place_of c.args.places.now (λ (o : Option Sending). holds passes o) false c.loop-place.place c.index-places-place.result (omega arith) c.index-places-place.is (sym c.is_unacknowledged_at.ensures ∙ search rules) c.loop-place.invariant

pub returns-clause-yes : goal.returns-clause-yes
returns-clause-yes c = λ yes. none_passes place_of (is_unacknowledged c.args.to.now) c.args.places.now c.loop-place.place (omega arith) c.loop-place.invariant
