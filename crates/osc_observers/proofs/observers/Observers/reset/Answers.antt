use Rattle.std.proofs.Common.{◌∙◌, ap, sym}
use Rattle.osc_observers.specs.Views.{place_of}
use Rattle.osc_observers.proofs.Listed.{ends, numbered}
use Rattle.osc_message.proofs.Walking.{in_table, stands_at}
use Rattle.osc_observers.proofs.observers.Observers.reset.Goals as goal

pub returns : goal.returns
returns g c =
    let found = c.in_ok-place.ensures in
    let xs = c.args.self.now.places.items in
    let lent = c.deref_mut.result.now in
    let same = c.deref_mut.ensures.value in
    let there = in_table place_of xs c.as_slice.result.now c.in_ok-place.place _ c.as_slice.ensures.value found.1 in
    let o = stands_at place_of xs lent c.in_ok-place.place found.0 c.index-deref_mut-place.result same there c.index-deref_mut-place.is in
    let here = ap place_of (sym c.index-deref_mut-place.is) ∙ o in
    let it = c.in-Some.ensures in
    (found.0, numbered _ found.0 c.in-Some.number here it.number, (ends xs lent c.in_ok-place.place _ c.end_at.new.place found.0 same there it.gone, found.2))
