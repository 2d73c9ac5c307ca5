use Rattle.std.proofs.Common.{arith, true}
use Rattle.std.specs.Prelude.{None, Option, is_some}
use Rattle.osc_observers.specs.Views.{place_of, watching_of}
use Rattle.osc_observers.specs.Watching.{Watching}
use Rattle.osc_message.proofs.Walking.{some_place, still, whole}
use Rattle.osc_observers.proofs.places.find_free.Goals as goal

pub loop-place-preserved : goal.loop-place-preserved
loop-place-preserved c =
    still place_of c.args.places.now (λ (o : Option Watching). is_some o) true c.loop-place.place c.index-places-place.result (omega arith) c.index-places-place.is (some_place watching_of c.index-places-place.result c.if-is_none.ensures) c.loop-place.invariant

pub returns : goal.returns
returns c = λ i there.
    let nothing : Option Watching = None in
    let some = whole place_of c.args.places.now (λ (o : Option Watching). is_some o) true c.loop-place.place (omega arith) c.loop-place.invariant i nothing there in
    absurd (grind (arith, some))
