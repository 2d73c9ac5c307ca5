use Rattle.std.proofs.Common.{◌∙◌, ap, sym}
use Rattle.osc_observers.specs.Finding.{noted_at}
use Rattle.osc_observers.specs.Views.{place_of}
use Rattle.osc_observers.specs.Watching.{noted}
use Rattle.osc_observers.proofs.Listed.{stays}
use Rattle.osc_message.proofs.Walking.{in_table, stands_at}
use Rattle.osc_observers.proofs.observers.Observers.note.Goals as goal

pub returns : goal.returns
returns g c =
    let found = c.is_there.ensures.yes c.if-not-is_there.false in
    let xs = c.args.self.now.places.items in
    let lent = c.deref_mut.result.now in
    let same = c.deref_mut.ensures.value in
    let there = in_table place_of xs c.as_slice.result.now c.args.observer.place _ c.as_slice.ensures.value found.1 in
    let here = ap place_of (sym c.index-deref_mut-observer.is) ∙ stands_at place_of xs lent c.args.observer.place found.0 c.index-deref_mut-observer.result same there c.index-deref_mut-observer.is in
    let after = c.note_at.ensures ∙ ap (λ o. noted_at o c.args.message_id c.args.call c.args.now) here in
    (found.0, found.2, stays xs lent c.args.observer.place _ c.note_at.new.place found.0 (noted found.0 c.args.message_id c.args.call c.args.now) same there after)
