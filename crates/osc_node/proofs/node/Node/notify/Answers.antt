use Rattle.std.proofs.Common.{◌∙◌, refl, subst, take, length}
use Rattle.osc_coap.specs.Datagram.{Parts}
use Rattle.osc_coap.specs.Views.{parts_of}
use Rattle.osc_kept_ends.specs.PeerOwning.{own_in}
use Rattle.osc_kept_ends.specs.Peering.{PeerStep}
use Rattle.osc_life.specs.ServerHistory as served
use Rattle.osc_life.specs.Views.{values_of}
use Rattle.osc_message.specs.LayerViews.{layer_of}
use Rattle.osc_message.specs.Taking.{Layer}
use Rattle.osc_message.specs.Views.{table_of}
use Rattle.osc_message.specs.declared.exchange.Awaits.TheVariants.{Acknowledgement}
use Rattle.osc_message.specs.declared.exchanges.Outgoing.{Outgoing}
use Rattle.osc_node.specs.Notifying.{kind_of}
use Rattle.osc_node.proofs.Notices.{never_refused, sent_first, sent_once, under_type}
use Rattle.osc_node.proofs.node.Node.notify.Goals as goal

pub returns-in-Err-clause-refused : goal.returns-in-Err-clause-refused
returns-in-Err-clause-refused g c = λ differs. (
  c.in_ok-id.id,
  c.in_ok-id.ensures.planned.1,
  (λ h behind.
      let P : Parts → Type 0 = λ p. PeerStep h (served.Notify (values_of c.args.ticket.now) p (length c.args.out.now)) (served.NotReplied c.in-Err.error)
      (own_in c.args.self.now.peer.source) (own_in c.notify.new.self.source) c.notify.new.self.server in
      subst P (c.with_head-message.ensures ∙ under_type (parts_of c.args.plain.now) c.type_of.result (kind_of c.args.separate) c.in_ok-id.id c.copy_of.result.items c.type_of.ensures c.copy_of.ensures)
      (c.in-Err.ensures.answered differs h behind)),
)

pub returns-in_default-clause-sent : goal.returns-in_default-clause-sent
returns-in_default-clause-sent g c = (
  c.in_ok-id.id,
  c.in_ok-id.ensures.planned.1,
  sent_once _ _ c.args.now c.args.random c.args.to.items c.in_ok-id.id c.args.separate c.in-Ok.len c.in_default.not-Con c.in_ok-id.ensures.same,
  (λ h behind.
      let P : Parts → Type 0 = λ p. PeerStep h (served.Notify (values_of c.args.ticket.now) p (length c.args.out.now)) (served.Replied (take c.in-Ok.len c.notify.new.out))
      (own_in c.args.self.now.peer.source) (own_in c.notify.new.self.source) c.notify.new.self.server in
      subst P (c.with_head-message.ensures ∙ under_type (parts_of c.args.plain.now) c.type_of.result (kind_of c.args.separate) c.in_ok-id.id c.copy_of.result.items c.type_of.ensures c.copy_of.ensures)
      (c.in-Ok.ensures.answered tt h behind)),
)

pub unreachable-requires : goal.unreachable-requires
unreachable-requires g c = never_refused (layer_of c.plan_notification.new.layer) c.as_slice.result.now c.args.to.items c.args.separate c.in-Err-begin.field-0
    c.in_ok-id.ensures.planned.0 c.in-Con.is c.as_slice.ensures.value c.in-Err-begin.ensures.refused

pub returns-clause-sent : goal.returns-clause-sent
returns-clause-sent g c =
    let m : Outgoing = record { to = c.args.to; message_id = c.in_ok-id.id; token = c.copy_of-2.result; awaits = Acknowledgement } in
    let mid = layer_of c.plan_notification.new.layer in
    let new : Layer = record { sent = table_of c.begin.new.self; came = mid.came } in (
      c.in_ok-id.id,
      c.in_ok-id.ensures.planned.1,
      sent_first (layer_of c.args.self.now.layer) mid new c.args.now c.args.random c.args.separate m c.in-Ok-begin.call c.in-Ok.len c.in-Con.is c.in_ok-id.ensures.same refl refl
          c.in-Ok-begin.ensures.begun,
      (λ h behind.
          let P : Parts → Type 0 = λ p. PeerStep h (served.Notify (values_of c.args.ticket.now) p (length c.args.out.now)) (served.Replied (take c.in-Ok.len c.notify.new.out))
          (own_in c.args.self.now.peer.source) (own_in c.notify.new.self.source) c.notify.new.self.server in
          subst P (c.with_head-message.ensures ∙ under_type (parts_of c.args.plain.now) c.type_of.result (kind_of c.args.separate) c.in_ok-id.id c.copy_of.result.items c.type_of.ensures c.copy_of.ensures)
          (c.in-Ok.ensures.answered tt h behind)),
    )
