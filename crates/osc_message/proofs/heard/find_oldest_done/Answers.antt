use Rattle.std.proofs.Common.{◌+◌, sym, subst, arith}
use Rattle.std.specs.Prelude.{Option, map}
use Rattle.osc_message.specs.HearingViews.{seen_of}
use Rattle.osc_message.specs.declared.heard.Oldest.{Oldest}
use Rattle.osc_message.proofs.Oldest.{IsOldest, all_none, all_some, one_more}
use Rattle.osc_message.proofs.heard.find_oldest_done.Goals as goal

pub loop-place-preserved : goal.loop-place-preserved
loop-place-preserved c =
    let P : Option Oldest → Type 0 = λ found. IsOldest (map seen_of c.args.places.now) (c.loop-place.place + 1) found in
    subst P (sym c.older-oldest.ensures)
    (one_more c.args.places.now c.loop-place.place c.index-places-place.result c.loop-place.oldest (omega arith) c.index-places-place.is c.loop-place.invariant)

pub returns-in-Some : goal.returns-in-Some
returns-in-Some c =
    let P : Option Oldest → Type 0 = λ found. IsOldest (map seen_of c.args.places.now) c.loop-place.place found in
    all_some c.args.places.now c.loop-place.place c.in-Some.found (omega arith) (subst P c.in-Some.is c.loop-place.invariant)

pub returns-in-None : goal.returns-in-None
returns-in-None c =
    let P : Option Oldest → Type 0 = λ found. IsOldest (map seen_of c.args.places.now) c.loop-place.place found in
    all_none c.args.places.now c.loop-place.place (omega arith) (subst P c.in-None.is c.loop-place.invariant)
