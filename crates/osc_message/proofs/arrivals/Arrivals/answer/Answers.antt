use Rattle.std.proofs.Common.{◌∙◌, ap, subst, sym}
use Rattle.std.specs.Prelude.{Option}
use Rattle.osc_message.specs.Hearing.{Heard}
use Rattle.osc_message.specs.HearingFinding.{AnswersAt}
use Rattle.osc_message.specs.HearingViews.{seen_of}
use Rattle.osc_message.proofs.Came.{answers}
use Rattle.osc_message.proofs.Walking.{in_table, stands_at, within_table}
use Rattle.osc_message.proofs.arrivals.Arrivals.answer.Goals as goal

pub bounds-deref_mut-arrived : goal.bounds-deref_mut-arrived
bounds-deref_mut-arrived g c =
    let found = c.is_there.ensures.yes c.if-not-is_there.false in
    let xs = c.args.self.now.places.items in
    within_table seen_of xs c.deref_mut.result.now c.args.arrived.place _ c.deref_mut.ensures.value
    (in_table seen_of xs c.as_slice.result.now c.args.arrived.place _ c.as_slice.ensures.value found.1)

pub returns : goal.returns
returns g c =
    let found = c.is_there.ensures.yes c.if-not-is_there.false in
    let xs = c.args.self.now.places.items in
    let lent = c.deref_mut.result.now in
    let same = c.deref_mut.ensures.value in
    let there = in_table seen_of xs c.as_slice.result.now c.args.arrived.place _ c.as_slice.ensures.value found.1 in
    let here = ap seen_of (sym c.index-deref_mut-arrived.is) ∙ stands_at seen_of xs lent c.args.arrived.place found.0 c.index-deref_mut-arrived.result same there c.index-deref_mut-arrived.is in
    let P : Option Heard → Type 0 = λ o. AnswersAt o (seen_of c.answer_at.new.place) c.answer_at.result in
    answers xs lent c.args.arrived.place _ c.args.arrived.number c.answer_at.new.place found.0 c.answer_at.result same there found.2 (subst P here c.answer_at.ensures)
