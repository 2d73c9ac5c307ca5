use Rattle.std.proofs.Common.{◌≡◌, ◌∙◌, ap, sym, subst, refl, arith, length}
use Rattle.std.specs.Prelude.{max, take}
use Rattle.osc_coap.specs.Views.{parts_of}
use Rattle.osc_context.specs.SecurityContext.{SecurityContext}
use Rattle.osc_context.specs.Views.{as_client, number_of}
use Rattle.osc_context.specs.declared.context.Context.{Context}
use Rattle.osc_protect.specs.Protection.{requests}
use Rattle.osc_protect.specs.Views.{context_of}
use Rattle.osc_protect.specs.SealRefusals.{RefusesToSeal}
use Rattle.osc_client.specs.Agrees.{TokensDiffer}
use Rattle.osc_client.specs.ClientAnswer.{IsAmong, RequestAnswer}
use Rattle.osc_client.specs.ClientHistory.{Then, Advance, Advanced, NotSent, Sent, clock, context}
use Rattle.osc_client.proofs.ClientRequests.{agrees_sent, differ_sent, first_refused, in_room, plainly_sealed, refused_now, seal_refused, sealed_now}
use Rattle.osc_client.proofs.GivingWay.{differ_beside}
use Rattle.osc_client.proofs.client_state.ClientState.send.Goals as goal

pub returns-in-Err-clause-answered : goal.returns-in-Err-clause-answered
returns-in-Err-clause-answered g c = λ h a.
    let b = c.advance.ensures.follows h a in
    let h' = Then h (Advance c.args.now) Advanced in
    let n = g.W.Waiting.room c.advance.new.pending in
    let features : c.features-features.result ≡ (context h').features = c.features-features.ensures.client ∙ ap (λ (k : Context). (as_client k).features) c.context.ensures ∙ ap (λ (s : SecurityContext). s.features) b.context_is in
    in_room n _ h c.args.now (length c.args.out.now) (parts_of c.args.plain.now) (NotSent c.first_reason-reason.result) c.advance.ensures.room
    (refused_now n h c.args.now (length c.args.out.now) (parts_of c.args.plain.now) c.first_reason-reason.result
    (first_refused n h' (max (clock h) c.args.now) (length c.args.out.now) (parts_of c.args.plain.now) c.features-features.result c.in-Err.other c.first_reason-reason.result features
    (λ plain. c.in-Err.ensures.refused h' (length c.args.out.now) b plain) c.first_reason-reason.ensures.first))

pub push-requires : goal.push-requires
push-requires g c = record {
  table = c.take_out_of.ensures.table;
  fits =
      let same = ap length c.take_out_of.ensures.requests in
      let room = c.take_out_of.ensures.room in
      let less = c.in-Ok.ensures.fits.0 in
      omega (arith, same, room, less);
}

pub invariant_of-self : goal.invariant_of-self
invariant_of-self g c = let fits = c.in-Ok.ensures.fits.1 in record { in_range = omega (arith, fits) }

pub returns-in-Ok-seal_request-clause-answered : goal.returns-in-Ok-seal_request-clause-answered
returns-in-Ok-seal_request-clause-answered g c = λ h a.
    let b = c.advance.ensures.follows h a in
    let n = g.W.Waiting.room c.advance.new.pending in
    let plain = plainly_sealed _ (Then h (Advance c.args.now) Advanced) (number_of c.in-Ok.numbered.0) (parts_of c.args.plain.now) _ b c.in-Ok-seal_request.ensures.sealed in
    let given = c.in-Ok.ensures.accepted (Then h (Advance c.args.now) Advanced) b plain in
    in_room n _ h c.args.now (length c.args.out.now) (parts_of c.args.plain.now) (Sent (take c.in-Ok-seal_request.len c.seal_request.new.out)) c.advance.ensures.room
    (sealed_now n _ h c.args.now (number_of c.in-Ok.numbered.0) c.in-Ok-seal_request.len (parts_of c.args.plain.now) c.seal_request.new.out c.args.out.now
    b given.0 given.1 c.seal_request.auto.out c.in-Ok-seal_request.ensures.sealed)

pub returns-in-Ok-seal_request-clause-follows : goal.returns-in-Ok-seal_request-clause-follows
returns-in-Ok-seal_request-clause-follows g c = λ h a.
    let b = c.advance.ensures.follows h a in
    let plain = plainly_sealed _ (Then h (Advance c.args.now) Advanced) (number_of c.in-Ok.numbered.0) (parts_of c.args.plain.now) _ b c.in-Ok-seal_request.ensures.sealed in
    let given = c.in-Ok.ensures.accepted (Then h (Advance c.args.now) Advanced) b plain in
    agrees_sent _ _ _ h c.args.now (length c.args.out.now) (parts_of c.args.plain.now) _ _ _ b given.0 refl refl refl refl refl
    (c.take_out_of.ensures.requests ∙ (c.in-Ok.ensures.unused (subst TokensDiffer (sym b.table) b.differ)).0) c.push.ensures.requests c.copy_of.ensures given.1 refl c.wait_for-wait.ensures

pub returns-in-Ok-seal_request-clause-number : goal.returns-in-Ok-seal_request-clause-number
returns-in-Ok-seal_request-clause-number g c = λ h a. c.in-Ok.ensures.number (Then h (Advance c.args.now) Advanced) (c.advance.ensures.follows h a)

pub returns-in-Err-seal_request-clause-answered : goal.returns-in-Err-seal_request-clause-answered
returns-in-Err-seal_request-clause-answered g c = λ h a.
    let b = c.advance.ensures.follows h a in
    let h' = Then h (Advance c.args.now) Advanced in
    let n = g.W.Waiting.room c.advance.new.pending in
    let number = c.in-Ok.ensures.number h' b in
    let by_context = subst (λ s. RefusesToSeal (requests s) (number_of c.in-Ok.numbered.0) (parts_of c.args.plain.now) (length c.args.out.now) c.in-Err-seal_request.error) b.context_is c.in-Err-seal_request.ensures.refused in
    let by_number = subst (λ k. RefusesToSeal (requests (context h)) k (parts_of c.args.plain.now) (length c.args.out.now) c.in-Err-seal_request.error) number by_context in
    in_room n _ h c.args.now (length c.args.out.now) (parts_of c.args.plain.now) (NotSent c.lift.result) c.advance.ensures.room
    (refused_now n h c.args.now (length c.args.out.now) (parts_of c.args.plain.now) c.lift.result
    (subst (λ e. RequestAnswer n h' (max (clock h) c.args.now) (parts_of c.args.plain.now) (length c.args.out.now) (NotSent e)) (sym c.lift.ensures.value)
    (seal_refused n h' (max (clock h) c.args.now) (length c.args.out.now) (parts_of c.args.plain.now) c.in-Err-seal_request.error
    (λ plain. (c.in-Ok.ensures.accepted h' b plain).0) by_number)))

pub returns-in-Ok-seal_request-clause-apart : goal.returns-in-Ok-seal_request-clause-apart
returns-in-Ok-seal_request-clause-apart g c = λ d.
    let before = c.advance.ensures.apart d in
    let (beside_is, unused) = c.in-Ok.ensures.unused before in
    differ_sent _ _ _ _ c.push.ensures.requests c.copy_of.ensures (subst (λ xs. IsAmong (parts_of c.args.plain.now).token xs → ⊥) (sym c.take_out_of.ensures.requests) unused)
    (subst TokensDiffer (sym (c.take_out_of.ensures.requests ∙ beside_is)) (differ_beside (context_of c.advance.new.self.context).features (parts_of c.args.plain.now) (g.W.Waiting.requests c.advance.new.pending) before))
