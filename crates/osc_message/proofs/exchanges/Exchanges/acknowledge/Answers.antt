use Rattle.std.proofs.Common.{◌≡◌, ◌∙◌, ap, sym}
use Rattle.std.specs.Prelude.{Some}
use Rattle.osc_message.specs.Sending.{Sending, stopped}
use Rattle.osc_message.specs.Views.{place_of}
use Rattle.osc_message.proofs.OnTheirWay.{ends, moves}
use Rattle.osc_message.proofs.Walking.{in_table, one_of, stands_at}
use Rattle.osc_message.proofs.exchanges.Exchanges.acknowledge.Goals as goal

pub returns-in-Stopped : goal.returns-in-Stopped
returns-in-Stopped g c =
    let found = c.in-Some.ensures in
    let xs = c.args.self.now.places.items in
    let lent = c.deref_mut.result.now in
    let same = c.deref_mut.ensures.value in
    let there = in_table place_of xs c.as_slice.result.now c.in-Some.place _ c.as_slice.ensures.value found.1 in
    let o = stands_at place_of xs lent c.in-Some.place found.0 c.index-deref_mut-place.result same there c.index-deref_mut-place.is in
    let here = ap place_of (sym c.index-deref_mut-place.is) ∙ o in
    let it = c.in-Stopped.ensures in
    let one : it.0 ≡ found.0 = one_of it.0 found.0 (sym it.1 ∙ here) in (
      found.0,
      (there, found.2, ap (λ (x : Sending). x.call) (sym one) ∙ it.2),
      ap (λ (x : Sending). x.awaits) (sym one) ∙ it.3,
      moves xs lent c.in-Some.place _ c.acknowledge_at.new.place found.0 (stopped found.0) same there (it.4 ∙ ap (λ (x : Sending). Some (stopped x)) one),
    )

pub returns-in-Ended : goal.returns-in-Ended
returns-in-Ended g c =
    let found = c.in-Some.ensures in
    let xs = c.args.self.now.places.items in
    let lent = c.deref_mut.result.now in
    let same = c.deref_mut.ensures.value in
    let there = in_table place_of xs c.as_slice.result.now c.in-Some.place _ c.as_slice.ensures.value found.1 in
    let o = stands_at place_of xs lent c.in-Some.place found.0 c.index-deref_mut-place.result same there c.index-deref_mut-place.is in
    let here = ap place_of (sym c.index-deref_mut-place.is) ∙ o in
    let it = c.in-Ended.ensures in
    let one : it.0 ≡ found.0 = one_of it.0 found.0 (sym it.1 ∙ here) in (
      found.0,
      (there, found.2, ap (λ (x : Sending). x.call) (sym one) ∙ it.2),
      ap (λ (x : Sending). x.awaits) (sym one) ∙ it.3,
      ends xs lent c.in-Some.place _ c.acknowledge_at.new.place found.0 same there it.4,
    )
