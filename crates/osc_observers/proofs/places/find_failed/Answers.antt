use Rattle.std.proofs.Common.{◌∙◌, ap, sym, arith, rules, Some, false}
use Rattle.std.specs.Prelude.{Option}
use Rattle.osc_message.specs.Slots.{holds}
use Rattle.osc_observers.specs.Views.{place_of}
use Rattle.osc_observers.specs.Watching.{Watching, is_failed}
use Rattle.osc_message.proofs.Walking.{held, none_passes, reads, still}
use Rattle.osc_observers.proofs.places.find_failed.Goals as goal

pub returns-then-is_failed_at : goal.returns-then-is_failed_at
returns-then-is_failed_at c =
    let o = c.index-places-place.result in
    let found = held (is_failed c.args.call) (place_of o) (sym c.is_failed_at.ensures ∙ search rules) in
    (found.0, reads place_of c.args.places.now c.loop-place.place o (omega arith) c.index-places-place.is ∙ ap Some found.1, found.2)

pub loop-place-preserved : goal.loop-place-preserved
loop-place-preserved c =
    let passes = is_failed c.args.call in
    still place_of c.args.places.now (λ (o : Option Watching). holds passes o) false c.loop-place.place c.index-places-place.result (omega arith) c.index-places-place.is (sym c.is_failed_at.ensures ∙ search rules) c.loop-place.invariant

pub returns : goal.returns
returns c = none_passes place_of (is_failed c.args.call) c.args.places.now c.loop-place.place (omega arith) c.loop-place.invariant
