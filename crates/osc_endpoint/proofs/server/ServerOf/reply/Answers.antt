use Rattle.std.proofs.Common.{◌≡◌, ◌∙◌, sym, ap, subst, refl, length, List, Option}
use Rattle.osc_coap.specs.Views.{parts_of}
use Rattle.std.specs.Option.{option_map}
use Rattle.osc_life.specs.declared.slot.Slot.{Slot}
use Rattle.osc_endpoint.specs.Agrees.{TableAgrees}
use Rattle.osc_life.specs.Life.{marked}
use Rattle.osc_life.specs.LifeAnswer.{asks_own}
use Rattle.osc_life.specs.ServerHistory as server
use Rattle.osc_life.specs.Views.{values_of}
use Rattle.osc_endpoint.proofs.Decisions.{refill_same, agrees_replied}
use Rattle.osc_endpoint.proofs.server.ServerOf.reply.Goals as goal

pub returns-in-Ok-clause-follows : goal.returns-in-Ok-clause-follows
returns-in-Ok-clause-follows g c = λ h a.
    let v : c.as_mut_slice.result.now ≡ c.args.self.now.slots.items = c.as_mut_slice.ensures.value in
    let xs = c.reply_at.new.slots in
    let len : length xs ≡ length c.args.self.now.slots.items = c.reply_at.auto.slots ∙ ap (λ (s : List (Option Slot)). length s) v in
    let items = refill_same c.args.self.now.slots.items xs len in
    let t = values_of c.args.ticket in
    let own = asks_own t c.args.own in
    agrees_replied c.args.self.now _ h t own c.args.mid _ (parts_of c.args.plain.now) _ a refl (ap (λ (s : List (Option Slot)). length s) items ∙ len)
    (subst (λ s. TableAgrees s (λ i. option_map (marked (server.reply_mark_at i t own)) (server.life h i))) (sym items)
    (subst (λ b. TableAgrees xs (λ i. option_map (marked (server.reply_mark_at i t b)) (server.life h i))) c.asks_own-own.ensures
    (c.in-Ok.ensures.agrees (server.life h) (subst (λ s. TableAgrees s (server.life h)) (sym v) a.places))))
