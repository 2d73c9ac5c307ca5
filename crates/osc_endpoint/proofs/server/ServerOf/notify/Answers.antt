use Rattle.std.proofs.Common.{◌≡◌, ◌∙◌, sym, ap, subst, refl, length, true, List, Option}
use Rattle.std.specs.Option.{option_map}
use Rattle.osc_coap.specs.Views.{parts_of}
use Rattle.osc_life.specs.declared.slot.Slot.{Slot}
use Rattle.osc_endpoint.specs.Agrees.{TableAgrees}
use Rattle.osc_life.specs.Life.{marked}
use Rattle.osc_endpoint.specs.Replying.{marks_at}
use Rattle.osc_life.specs.ServerHistory as server
use Rattle.osc_life.specs.Views.{values_of}
use Rattle.osc_endpoint.proofs.Decisions.{agrees_notified, refill_same}
use Rattle.osc_endpoint.proofs.server.ServerOf.notify.Goals as goal

pub returns-clause-follows : goal.returns-clause-follows
returns-clause-follows g c = λ h a.
    let v : c.as_mut_slice.result.now ≡ c.args.self.now.slots.items = c.as_mut_slice.ensures.value in
    let xs = c.notify_at.new.slots in
    let len : length xs ≡ length c.args.self.now.slots.items = c.notify_at.auto.slots ∙ ap (λ (s : List (Option Slot)). length s) v in
    let items = refill_same c.args.self.now.slots.items xs len in
    let t = values_of c.args.ticket.now in
    agrees_notified c.args.self.now _ h t _ (parts_of c.args.plain.now) c.notify_at.result _ a refl (ap (λ (s : List (Option Slot)). length s) items ∙ len)
    (subst (λ s. TableAgrees s (λ i. option_map (marked (marks_at c.notify_at.result i t true)) (server.life h i))) (sym items)
    (c.notify_at.ensures.agrees (server.life h) (subst (λ s. TableAgrees s (server.life h)) (sym v) a.places)))
