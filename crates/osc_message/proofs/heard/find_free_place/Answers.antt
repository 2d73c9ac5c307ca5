use Rattle.std.proofs.Common.{arith, true}
use Rattle.std.specs.Prelude.{None, Option, is_some}
use Rattle.osc_message.specs.Hearing.{Heard}
use Rattle.osc_message.specs.HearingViews.{heard_of, seen_of}
use Rattle.osc_message.proofs.Walking.{some_place, still, whole}
use Rattle.osc_message.proofs.heard.find_free_place.Goals as goal

pub loop-place-preserved : goal.loop-place-preserved
loop-place-preserved c =
    still seen_of c.args.places.now (λ (o : Option Heard). is_some o) true c.loop-place.place c.index-places-place.result (omega arith) c.index-places-place.is (some_place heard_of c.index-places-place.result c.if-is_none.ensures) c.loop-place.invariant

pub returns : goal.returns
returns c = λ i there.
    let nothing : Option Heard = None in
    let some = whole seen_of c.args.places.now (λ (o : Option Heard). is_some o) true c.loop-place.place (omega arith) c.loop-place.invariant i nothing there in
    absurd (grind (arith, some))
