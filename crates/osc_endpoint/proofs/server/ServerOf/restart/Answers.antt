use Rattle.std.proofs.Common.{◌≡◌, ◌∙◌, sym, ap, subst, refl, length, List, Option}
use Rattle.osc_context.specs.Views.{number_of}
use Rattle.osc_life.specs.declared.slot.Slot.{Slot}
use Rattle.osc_endpoint.specs.Agrees.{TableAgrees}
use Rattle.osc_endpoint.specs.Restarting.{lives_after}
use Rattle.osc_life.specs.ServerHistory as server
use Rattle.osc_endpoint.proofs.Decisions.{agrees_restarted, refill_same}
use Rattle.osc_endpoint.proofs.server.ServerOf.restart.Goals as goal

pub returns-clause-follows : goal.returns-clause-follows
returns-clause-follows g c = λ h a.
    let v : c.as_mut_slice.result.now ≡ c.args.self.now.slots.items = c.as_mut_slice.ensures.value in
    let xs = c.restart_at.new.slots in
    let len : length xs ≡ length c.args.self.now.slots.items = c.restart_at.auto.slots ∙ ap (λ (s : List (Option Slot)). length s) v in
    let items = refill_same c.args.self.now.slots.items xs len in
    agrees_restarted c.args.self.now _ h c.args.context (number_of c.args.next) c.restart_at.result a refl (ap (λ (s : List (Option Slot)). length s) items ∙ len)
    (subst (λ s. TableAgrees s (lives_after c.restart_at.result c.args.context (number_of c.args.next) (server.life h))) (sym items)
    (c.restart_at.ensures.agrees (server.life h) (subst (λ s. TableAgrees s (server.life h)) (sym v) a.places)))
