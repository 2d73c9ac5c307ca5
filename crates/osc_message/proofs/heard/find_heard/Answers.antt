use Rattle.std.proofs.Common.{◌∙◌, ap, sym, arith, rules, Some, false}
use Rattle.std.specs.Prelude.{Option}
use Rattle.osc_message.specs.Hearing.{Heard, is_same}
use Rattle.osc_message.specs.HearingViews.{seen_of}
use Rattle.osc_message.specs.Slots.{holds}
use Rattle.osc_message.proofs.Walking.{held, none_passes, reads, still}
use Rattle.osc_message.proofs.heard.find_heard.Goals as goal

pub returns-then-is_same_at : goal.returns-then-is_same_at
returns-then-is_same_at c =
    let o = c.index-places-place.result in
    let found = held (is_same c.args.from.now c.args.message_id c.args.now) (seen_of o) (sym c.is_same_at.ensures ∙ search rules) in
    (found.0, reads seen_of c.args.places.now c.loop-place.place o (omega arith) c.index-places-place.is ∙ ap Some found.1, found.2)

pub loop-place-preserved : goal.loop-place-preserved
loop-place-preserved c =
    let passes = is_same c.args.from.now c.args.message_id c.args.now in
    still seen_of c.args.places.now (λ (o : Option Heard). holds passes o) false c.loop-place.place c.index-places-place.result (omega arith) c.index-places-place.is (sym c.is_same_at.ensures ∙ search rules) c.loop-place.invariant

pub returns : goal.returns
returns c = none_passes seen_of (is_same c.args.from.now c.args.message_id c.args.now) c.args.places.now c.loop-place.place (omega arith) c.loop-place.invariant
