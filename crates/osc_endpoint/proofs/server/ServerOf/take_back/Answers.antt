use Rattle.std.proofs.Common.{◌≡◌, ◌∙◌, sym, ap, subst, length, List, Option, Some, option_map}
use Rattle.osc_life.specs.declared.slot.Slot.{Slot}
use Rattle.osc_life.specs.Life.{marked}
use Rattle.osc_life.specs.ServerHistory as server
use Rattle.osc_endpoint.specs.Agrees.{TableAgrees}
use Rattle.osc_endpoint.specs.Restarting.{delivery_mark_at}
use Rattle.osc_endpoint.proofs.Decisions.{refill_same}
use Rattle.osc_endpoint.proofs.server.ServerOf.take_back.Goals as goal

pub returns : goal.returns
returns g c = λ h now mid echo d reply received ticket l each is gate here a.
    let v : c.as_mut_slice.result.now ≡ c.args.self.now.slots.items = c.as_mut_slice.ensures.value in
    let xs = c.take_back_at.new.slots in
    let len : length xs ≡ length c.args.self.now.slots.items = c.take_back_at.auto.slots ∙ ap (λ (s : List (Option Slot)). length s) v in
    let items = refill_same c.args.self.now.slots.items xs len in
    let old : TableAgrees c.as_mut_slice.result.now (λ i. option_map (marked (delivery_mark_at i c.args.context ticket.number)) (server.life h i)) =
    subst (λ s. TableAgrees s (λ i. option_map (marked (delivery_mark_at i c.args.context ticket.number)) (server.life h i))) (sym v)
    (subst (λ k. TableAgrees c.args.self.now.slots.items (λ i. option_map (marked (delivery_mark_at i k ticket.number)) (server.life h i))) here a.places) in
    record {
      clock_is = a.clock_is;
      contexts = ap (λ (s : List (Option Slot)). length s) items ∙ len ∙ a.contexts;
      places = subst (λ s. TableAgrees s (server.life h)) (sym items)
          (c.take_back_at.ensures (server.life h) l ticket.number (subst (λ k. server.life h k ≡ Some l) here is) gate old);
      one_each = each;
    }
