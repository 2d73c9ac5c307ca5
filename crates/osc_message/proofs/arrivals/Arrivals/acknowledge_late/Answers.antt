use Rattle.std.proofs.Common.{◌∙◌, ap, subst, sym, Some}
use Rattle.std.specs.Prelude.{Option}
use Rattle.osc_message.specs.Hearing.{Heard, acknowledged}
use Rattle.osc_message.specs.HearingFinding.{AcksAt}
use Rattle.osc_message.specs.HearingViews.{seen_of}
use Rattle.osc_message.proofs.Came.{stays}
use Rattle.osc_message.proofs.Walking.{in_table, one_of, stands_at}
use Rattle.osc_message.proofs.arrivals.Arrivals.acknowledge_late.Goals as goal

pub returns : goal.returns
returns g c =
    let found = c.in_ok-place.ensures in
    let xs = c.args.self.now.places.items in
    let lent = c.deref_mut.result.now in
    let same = c.deref_mut.ensures.value in
    let there = in_table seen_of xs c.as_slice.result.now c.in_ok-place.place _ c.as_slice.ensures.value found.1 in
    let here = ap seen_of (sym c.index-deref_mut-place.is) ∙ stands_at seen_of xs lent c.in_ok-place.place found.0 c.index-deref_mut-place.result same there c.index-deref_mut-place.is in
    let P : Option Heard → Type 0 = λ o. AcksAt o (seen_of c.acknowledge_late_at.new.place) (Some c.in-Some.number) in
    let it = subst P here c.in-Some.ensures in
    (found.0, found.2, one_of found.0.number c.in-Some.number (sym it.1), stays xs lent c.in_ok-place.place _ c.acknowledge_late_at.new.place found.0 (acknowledged found.0) same there it.0)
