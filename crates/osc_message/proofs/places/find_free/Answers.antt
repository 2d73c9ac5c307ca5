use Rattle.std.proofs.Common.{arith, true}
use Rattle.std.specs.Prelude.{None, Option, is_some}
use Rattle.osc_message.specs.Sending.{Sending}
use Rattle.osc_message.specs.Views.{place_of, sending_of}
use Rattle.osc_message.proofs.Walking.{some_place, still, whole}
use Rattle.osc_message.proofs.places.find_free.Goals as goal

pub loop-place-preserved : goal.loop-place-preserved
loop-place-preserved c =
    still place_of c.args.places.now (λ (o : Option Sending). is_some o) true c.loop-place.place c.index-places-place.result (omega arith) c.index-places-place.is (some_place sending_of c.index-places-place.result c.if-is_none.ensures) c.loop-place.invariant

pub returns : goal.returns
returns c = λ i there.
    let nothing : Option Sending = None in
    let some = whole place_of c.args.places.now (λ (o : Option Sending). is_some o) true c.loop-place.place (omega arith) c.loop-place.invariant i nothing there in
    absurd (grind (arith, some))
