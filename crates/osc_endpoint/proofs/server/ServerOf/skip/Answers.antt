use Rattle.std.proofs.Common.{◌≡◌, ◌∙◌, sym, ap, subst, refl, length, List, Option}
use Rattle.std.specs.Option.{option_map}
use Rattle.osc_life.specs.declared.slot.Slot.{Slot}
use Rattle.osc_endpoint.specs.Agrees.{TableAgrees}
use Rattle.osc_life.specs.Life.{marked}
use Rattle.osc_endpoint.specs.Restarting.{skip_marks}
use Rattle.osc_life.specs.ServerHistory as server
use Rattle.osc_endpoint.proofs.Decisions.{agrees_skipped, refill_same}
use Rattle.osc_endpoint.proofs.server.ServerOf.skip.Goals as goal

pub returns-clause-follows : goal.returns-clause-follows
returns-clause-follows g c = λ h a.
    let v : c.as_mut_slice.result.now ≡ c.args.self.now.slots.items = c.as_mut_slice.ensures.value in
    let xs = c.skip_at.new.slots in
    let len : length xs ≡ length c.args.self.now.slots.items = c.skip_at.auto.slots ∙ ap (λ (s : List (Option Slot)). length s) v in
    let items = refill_same c.args.self.now.slots.items xs len in
    agrees_skipped c.args.self.now _ h c.args.context c.args.count c.skip_at.result a refl (ap (λ (s : List (Option Slot)). length s) items ∙ len)
    (subst (λ s. TableAgrees s (λ i. option_map (marked (skip_marks c.skip_at.result i c.args.context c.args.count)) (server.life h i))) (sym items)
    (c.skip_at.ensures.agrees (server.life h) (subst (λ s. TableAgrees s (server.life h)) (sym v) a.places)))
