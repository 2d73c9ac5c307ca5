use Rattle.std.proofs.Common.{refl}
use Rattle.osc_message.proofs.OnTheirWay.{ends}
use Rattle.osc_message.proofs.Walking.{in_table, within_table}
use Rattle.osc_message.specs.Views.{place_of}
use Rattle.osc_message.proofs.exchanges.Exchanges.end.Goals as goal

pub bounds-deref_mut-call : goal.bounds-deref_mut-call
bounds-deref_mut-call g c =
    let found = c.is_on_its_way.ensures.yes c.if-not-is_on_its_way.false in
    let xs = c.args.self.now.places.items in
    within_table place_of xs c.deref_mut.result.now c.args.call.place _ c.deref_mut.ensures.value
    (in_table place_of xs c.as_slice.result.now c.args.call.place _ c.as_slice.ensures.value found.1)

pub returns : goal.returns
returns g c =
    let found = c.is_on_its_way.ensures.yes c.if-not-is_on_its_way.false in
    let xs = c.args.self.now.places.items in
    let there = in_table place_of xs c.as_slice.result.now c.args.call.place _ c.as_slice.ensures.value found.1 in
    (found.0, there, found.2, ends xs c.deref_mut.result.now c.args.call.place _ _ found.0 c.deref_mut.ensures.value there refl)
