use Rattle.std.proofs.Common.{refl}
use Rattle.osc_observers.specs.Views.{place_of}
use Rattle.osc_observers.proofs.Listed.{ends}
use Rattle.osc_message.proofs.Walking.{in_table}
use Rattle.osc_observers.proofs.observers.Observers.forget.Goals as goal

pub returns : goal.returns
returns g c =
    let found = c.is_there.ensures.yes c.if-not-is_there.false in
    let xs = c.args.self.now.places.items in
    let there = in_table place_of xs c.as_slice.result.now c.args.observer.place _ c.as_slice.ensures.value found.1 in
    (found.0, found.2, (ends xs c.deref_mut.result.now c.args.observer.place _ _ found.0 c.deref_mut.ensures.value there refl, tt))
