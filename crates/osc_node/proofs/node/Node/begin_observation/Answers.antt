use Rattle.std.proofs.Common.{◌≡◌, ◌∙◌, ◌++◌, ap, ℕ, refl, rules, subst, take, length}
use Rattle.std.proofs.Math.Seq.{take-append_seam}
use Rattle.osc_coap.specs.Datagram.{Parts}
use Rattle.osc_coap.specs.Views.{parts_of}
use Rattle.osc_kept_ends.specs.PeerOwning.{own_in}
use Rattle.osc_kept_ends.specs.Peering.{PeerStep}
use Rattle.osc_life.specs.ServerHistory as served
use Rattle.osc_life.specs.Views.{values_of}
use Rattle.osc_message.specs.LayerViews.{layer_of}
use Rattle.osc_message.specs.Taking.{Layer}
use Rattle.osc_message.specs.Views.{counted_of}
use Rattle.osc_message.specs.declared.message_ids.MessageIds.{MessageIds}
use Rattle.osc_node.specs.Planning.{CanSend}
use Rattle.osc_node.specs.Responding.{length_of, sent_as}
use Rattle.osc_node.proofs.Notices.{sent_as_planned, under_type}
use Rattle.osc_node.proofs.Planned.{can_be_sent, has_its_id, responds_so, gives_planned}
use Rattle.osc_node.proofs.node.Node.begin_observation.Goals as goal

pub returns-in-Err-clause-unsent : goal.returns-in-Err-clause-unsent
returns-in-Err-clause-unsent g c =
    let P : Layer → Type 0 = λ t. CanSend t c.args.arrived c.asker.result.now.kind c.in_ok-plan.plan in
    can_be_sent (layer_of c.args.self.now.layer) c.args.arrived c.asker.result.now.kind c.in_ok-plan.plan (subst P c.in_ok-plan.ensures.same c.in_ok-plan.ensures.planned.0)

pub returns-in-Err-clause-refused : goal.returns-in-Err-clause-refused
returns-in-Err-clause-refused g c = λ differs. (
  c.message_id.result,
  c.kind.result,
  (λ h behind.
      let P : Parts → Type 0 = λ p. PeerStep h (served.Notify (values_of c.args.ticket.now) p (length c.args.out.now)) (served.NotReplied c.in-Err.error)
      (own_in c.args.self.now.peer.source) (own_in c.notify.new.self.source) c.notify.new.self.server in
      subst P (c.with_head-message.ensures ∙ under_type (parts_of c.args.plain.now) c.kind.result c.kind.result c.message_id.result c.copy_of.result.items refl c.copy_of.ensures)
      (c.in-Err.ensures.answered differs h behind)),
)

pub returns-in-Err-clause-ids : goal.returns-in-Err-clause-ids
returns-in-Err-clause-ids g c = gives_planned _ _ c.args.now _ c.in_ok-plan.plan c.in_ok-plan.ensures.planned.1

pub carry_out-requires : goal.carry_out-requires
carry_out-requires g c = (search rules, (c.asker.result.now.kind, c.in_ok-plan.ensures.planned.0))

pub returns-clause-sent : goal.returns-clause-sent
returns-clause-sent g c =
    let ids : counted_of c.carry_out.new.layer.ids ≡ counted_of c.plan_response.new.layer.ids = ap (λ (m : MessageIds). counted_of m) c.carry_out.ensures.ids in
    let sealed = take c.in-Ok.len c.notify.new.out in
    let text = c.carry_out.new.sealed in
    let rest = c.split_at_mut-sealed.result.1.now in
    let whole : take (length_of c.carry_out.result) (text ++ rest) ≡ text = ap (λ (n : ℕ). take n (text ++ rest)) c.carry_out.ensures.length ∙ take-append_seam text rest in
    let front : c.split_at_mut-sealed.result.0.now ≡ sealed = search rules in (
      c.message_id.result,
      has_its_id _ _ _ c.args.now c.asker-2.result.now.message_id _ c.message_id.result c.in_ok-plan.plan c.carry_out.result c.in_ok-plan.ensures.planned.1 c.carry_out.ensures.carries ids
          c.asker-2.ensures.message_id c.message_id.ensures,
      sealed,
      responds_so _ _ _ c.args.now c.args.random c.args.arrived c.asker.result.now.kind _ c.message_id.result c.in_ok-plan.plan _ sealed text _ c.carry_out.result
          (c.carry_out.ensures.responds c.asker.result.now.kind c.in_ok-plan.ensures.planned.0) c.in_ok-plan.ensures.same c.asker.ensures.kind c.message_id.ensures front whole,
      (λ h behind.
          let P : Parts → Type 0 = λ p. PeerStep h (served.Notify (values_of c.args.ticket.now) p (length c.args.out.now)) (served.Replied sealed)
          (own_in c.args.self.now.peer.source) (own_in c.notify.new.self.source) c.notify.new.self.server in
          subst P (c.with_head-message.ensures ∙ under_type (parts_of c.args.plain.now) c.kind.result (sent_as c.carry_out.result) c.message_id.result c.copy_of.result.items
          (c.kind.ensures ∙ sent_as_planned c.in_ok-plan.plan c.carry_out.result c.carry_out.ensures.carries) c.copy_of.ensures)
          (c.in-Ok.ensures.answered tt h behind)),
    )
