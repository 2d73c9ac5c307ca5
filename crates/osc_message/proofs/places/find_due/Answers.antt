use Rattle.std.proofs.Common.{◌∙◌, ap, sym, arith, Some}
use Rattle.std.specs.Prelude.{Option}
use Rattle.osc_message.specs.Finding.{step_at_place}
use Rattle.osc_message.specs.Sending.{Sending}
use Rattle.osc_message.specs.Views.{place_of}
use Rattle.osc_message.specs.declared.exchange.Step.TheVariants.{Rest, Resend, GiveUp}
use Rattle.osc_message.proofs.OnTheirWay.{all_rest, stepped}
use Rattle.osc_message.proofs.Walking.{reads, still}
use Rattle.osc_message.proofs.places.find_due.Goals as goal

pub returns-in-Resend : goal.returns-in-Resend
returns-in-Resend c =
    let o = c.index-places-place.result in
    let found = stepped Resend (place_of o) c.args.now (sym c.step_at.ensures ∙ c.in-Resend.is) (λ e. grind (arith, e)) in
    (found.0, reads place_of c.args.places.now c.loop-place.place o (omega arith) c.index-places-place.is ∙ ap Some found.1, found.2)

pub returns-in-GiveUp : goal.returns-in-GiveUp
returns-in-GiveUp c =
    let o = c.index-places-place.result in
    let found = stepped GiveUp (place_of o) c.args.now (sym c.step_at.ensures ∙ c.in-GiveUp.is) (λ e. grind (arith, e)) in
    (found.0, reads place_of c.args.places.now c.loop-place.place o (omega arith) c.index-places-place.is ∙ ap Some found.1, found.2)

pub loop-place-preserved : goal.loop-place-preserved
loop-place-preserved c =
    still place_of c.args.places.now (λ (o : Option Sending). step_at_place o c.args.now) Rest c.loop-place.place c.index-places-place.result (omega arith) c.index-places-place.is (sym c.step_at.ensures ∙ c.in-Rest.is) c.loop-place.invariant

pub returns : goal.returns
returns c = all_rest c.args.places.now c.args.now c.loop-place.place (omega arith) c.loop-place.invariant
