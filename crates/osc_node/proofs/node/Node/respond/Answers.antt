use Rattle.std.proofs.Common.{◌≡◌, ◌∙◌, ◌++◌, ap, ℕ, refl, rules, subst, take}
use Rattle.std.proofs.Math.Seq.{take-append_seam}
use Rattle.osc_message.specs.LayerViews.{layer_of}
use Rattle.osc_message.specs.Taking.{Layer}
use Rattle.osc_message.specs.Views.{counted_of}
use Rattle.osc_message.specs.declared.message_ids.MessageIds.{MessageIds}
use Rattle.osc_node.specs.Planning.{CanSend}
use Rattle.osc_node.specs.Responding.{length_of}
use Rattle.osc_node.proofs.Planned.{can_be_sent, has_its_id, never_refused, not_asked, responds_so, gives_planned, gives_unasked}
use Rattle.osc_node.proofs.node.Node.respond.Goals as goal

pub returns-in-Err-clause-same : goal.returns-in-Err-clause-same
returns-in-Err-clause-same g c = not_asked c.in-Err.error _ refl

pub returns-in-Err-clause-refused : goal.returns-in-Err-clause-refused
returns-in-Err-clause-refused g c = never_refused c.in-Err.error _ c.in-Err.ensures.unasked

pub returns-in-Err-clause-failed : goal.returns-in-Err-clause-failed
returns-in-Err-clause-failed g c = never_refused c.in-Err.error _ c.in-Err.ensures.unasked

pub returns-in-Err-reply-clause-unsent : goal.returns-in-Err-reply-clause-unsent
returns-in-Err-reply-clause-unsent g c =
    let P : Layer → Type 0 = λ t. CanSend t c.args.arrived c.asker.result.now.kind c.in-Ok.plan in
    can_be_sent (layer_of c.args.self.now.layer) c.args.arrived c.asker.result.now.kind c.in-Ok.plan (subst P c.in-Ok.ensures.same c.in-Ok.ensures.planned.0)

pub returns-in-Err-reply-clause-refused : goal.returns-in-Err-reply-clause-refused
returns-in-Err-reply-clause-refused g c = λ differs. (c.message_id.result, λ h behind. c.in-Err-reply.ensures.answered differs h behind)

pub carry_out-requires : goal.carry_out-requires
carry_out-requires g c = (search rules, (c.asker.result.now.kind, c.in-Ok.ensures.planned.0))

pub returns-clause-sent : goal.returns-clause-sent
returns-clause-sent g c =
    let ids : counted_of c.carry_out.new.layer.ids ≡ counted_of c.plan_response.new.layer.ids = ap (λ (m : MessageIds). counted_of m) c.carry_out.ensures.ids in
    let sealed = take c.in-Ok-reply.len c.reply.new.out in
    let text = c.carry_out.new.sealed in
    let rest = c.split_at_mut-sealed.result.1.now in
    let whole : take (length_of c.carry_out.result) (text ++ rest) ≡ text = ap (λ (n : ℕ). take n (text ++ rest)) c.carry_out.ensures.length ∙ take-append_seam text rest in
    let front : c.split_at_mut-sealed.result.0.now ≡ sealed = search rules in (
      c.message_id.result,
      has_its_id _ _ _ c.args.now c.asker-2.result.now.message_id _ c.message_id.result c.in-Ok.plan c.carry_out.result c.in-Ok.ensures.planned.1 c.carry_out.ensures.carries ids
          c.asker-2.ensures.message_id c.message_id.ensures,
      sealed,
      responds_so _ _ _ c.args.now c.args.random c.args.arrived c.asker.result.now.kind _ c.message_id.result c.in-Ok.plan _ sealed text _ c.carry_out.result
          (c.carry_out.ensures.responds c.asker.result.now.kind c.in-Ok.ensures.planned.0) c.in-Ok.ensures.same c.asker.ensures.kind c.message_id.ensures front whole,
      (λ h behind. c.in-Ok-reply.ensures.answered tt h behind),
    )

pub returns-in-Err-clause-ids : goal.returns-in-Err-clause-ids
returns-in-Err-clause-ids g c = gives_unasked _ _ c.args.now c.in-Err.error (c.in-Err.ensures.ungiven refl)

pub returns-in-Err-reply-clause-ids : goal.returns-in-Err-reply-clause-ids
returns-in-Err-reply-clause-ids g c = gives_planned _ _ c.args.now _ c.in-Ok.plan c.in-Ok.ensures.planned.1
