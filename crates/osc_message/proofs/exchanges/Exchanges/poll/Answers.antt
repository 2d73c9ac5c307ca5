use Rattle.std.proofs.Common.{◌∙◌, ap, sym}
use Rattle.osc_message.specs.Places.{sent_again_at}
use Rattle.osc_message.specs.Sending.{again}
use Rattle.osc_message.specs.Views.{place_of}
use Rattle.osc_message.proofs.OnTheirWay.{called, ends, moves}
use Rattle.osc_message.proofs.Walking.{in_table, stands_at}
use Rattle.osc_message.proofs.exchanges.Exchanges.poll.Goals as goal

pub returns-in-Some : goal.returns-in-Some
returns-in-Some g c =
    let found = c.in-Resend.ensures in
    let xs = c.args.self.now.places.items in
    let lent = c.deref_mut.result.now in
    let same = c.deref_mut.ensures.value in
    let there = in_table place_of xs c.as_slice.result.now c.in-Resend.place _ c.as_slice.ensures.value found.1 in
    let here = ap place_of (sym c.index-deref_mut-place.is) ∙ stands_at place_of xs lent c.in-Resend.place found.0 c.index-deref_mut-place.result same there c.index-deref_mut-place.is in
    let it = c.in-Some.ensures in (
      found.0,
      found.2,
      called _ found.0 c.in-Some.number here it.number,
      moves xs lent c.in-Resend.place _ c.send_again_at.new.place found.0 (again found.0 c.args.now) same there (it.sent ∙ ap (λ o. sent_again_at o c.args.now) here),
    )

pub returns-in-Some-end_at : goal.returns-in-Some-end_at
returns-in-Some-end_at g c =
    let found = c.in-GiveUp.ensures in
    let xs = c.args.self.now.places.items in
    let lent = c.deref_mut-in-GiveUp.result.now in
    let same = c.deref_mut-in-GiveUp.ensures.value in
    let there = in_table place_of xs c.as_slice.result.now c.in-GiveUp.place _ c.as_slice.ensures.value found.1 in
    let here = ap place_of (sym c.index-deref_mut-place-in-GiveUp.is) ∙ stands_at place_of xs lent c.in-GiveUp.place found.0 c.index-deref_mut-place-in-GiveUp.result same there c.index-deref_mut-place-in-GiveUp.is in
    let it = c.in-Some-end_at.ensures in
    (found.0, found.2, called _ found.0 c.in-Some-end_at.number here it.number, ends xs lent c.in-GiveUp.place _ c.end_at.new.place found.0 same there it.gone)
