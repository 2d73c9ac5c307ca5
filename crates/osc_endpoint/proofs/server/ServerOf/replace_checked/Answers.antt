use Rattle.std.proofs.Common.{◌≡◌, ◌∙◌, sym, ap, subst, refl, length, List, Option}
use Rattle.osc_context.specs.Views.{as_server}
use Rattle.osc_life.specs.declared.slot.Slot.{Slot}
use Rattle.osc_endpoint.specs.Agrees.{TableAgrees}
use Rattle.osc_endpoint.specs.Restarting.{lives_with}
use Rattle.osc_life.specs.ServerHistory as server
use Rattle.osc_endpoint.proofs.Decisions.{agrees_replaced, refill_same}
use Rattle.osc_endpoint.proofs.server.ServerOf.replace_checked.Goals as goal

pub returns : goal.returns
returns g c = λ h a row.
    let v : c.as_mut_slice.result.now ≡ c.args.self.now.slots.items = c.as_mut_slice.ensures.value in
    let xs = c.put_at.new.slots in
    let len : length xs ≡ length c.args.self.now.slots.items = c.put_at.auto.slots ∙ ap (λ (s : List (Option Slot)). length s) v in
    let items = refill_same c.args.self.now.slots.items xs len in
    agrees_replaced c.args.self.now _ h c.args.index (as_server c.args.context) c.args.start c.args.size a refl (ap (λ (s : List (Option Slot)). length s) items ∙ len) row
    (subst (λ s. TableAgrees s (lives_with c.args.index (as_server c.args.context) c.args.start c.args.size (server.life h))) (sym items)
    (c.put_at.ensures (server.life h) (subst (λ s. TableAgrees s (server.life h)) (sym v) a.places)))
