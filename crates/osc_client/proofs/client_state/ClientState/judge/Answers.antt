use Rattle.std.proofs.Common.{arith, ◌∙◌, sym, subst, refl}
use Rattle.osc_client.specs.Agrees.{TokensDiffer}
use Rattle.osc_client.specs.ClientHistory.{BadInner, context, observes}
use Rattle.osc_client.proofs.Asking.{differ_at, differ_removed, heard_at, moved}
use Rattle.osc_client.proofs.ClientDecisions.{delivered, heads_law, notified, overtaken, responses_law}
use Rattle.osc_client.proofs.client_state.ClientState.judge.Goals as goal

pub returns-in_default-clause-answered : goal.returns-in_default-clause-answered
returns-in_default-clause-answered g c = λ h a.
    let was = c.in-Ok.ensures.answers h a in
    record {
      answer = BadInner;
      row = (was.to, was.answers, (was.awaits, c.in_default.ensures.refused (context h) (observes was.to.wait) was.to.number c.args.datagram.now was.decrypts));
      decides = tt;
      agrees = moved _ h c.args.now _ _ refl refl refl refl was.agrees;
    }

pub returns-in-None-clause-answered : goal.returns-in-None-clause-answered
returns-in-None-clause-answered g c = λ h a.
    delivered _ _ h c.args.now c.args.datagram.now c.decrypt.new.datagram _ _ (c.in-Ok.ensures.answers h a) _ c.one_datagram.ensures.one
    (responses_law c.one_response.ensures c.one_notification.ensures) c.one_head.ensures.response
    (heads_law c.protections_show_heads.ensures.response c.protections_show_heads.ensures.notification)
    c.in-Ok-inspect_response.ensures.placed c.in-Ok-inspect_response.ensures.accepted c.in-None.ensures refl refl refl refl refl c.take_out.ensures.requests

pub returns-in-None-clause-apart : goal.returns-in-None-clause-apart
returns-in-None-clause-apart g c = λ d. differ_removed _ _ _ c.take_out.ensures.requests c.in-Ok.ensures.within (c.decrypt.ensures.apart d)

pub returns-then-first_place-clause-answered : goal.returns-then-first_place-clause-answered
returns-then-first_place-clause-answered g c = λ h a.
    overtaken _ h c.args.now c.args.datagram.now c.decrypt.new.datagram _ _ (c.in-Ok.ensures.answers h a) _ c.in-Some.wait c.one_head.ensures.response
    (heads_law c.protections_show_heads.ensures.response c.protections_show_heads.ensures.notification)
    c.in-Ok-inspect_response.ensures.placed c.in-Ok-inspect_response.ensures.accepted c.in-Some.ensures (omega arith)

pub returns-else-first_place-clause-answered : goal.returns-else-first_place-clause-answered
returns-else-first_place-clause-answered g c = λ h a.
    let was = c.in-Ok.ensures.answers h a in
    notified _ _ h c.args.now c.args.datagram.now c.decrypt.new.datagram _ _ was _ c.in-Some.wait c.one_datagram.ensures.one
    (responses_law c.one_response.ensures c.one_notification.ensures) c.one_head.ensures.response
    (heads_law c.protections_show_heads.ensures.response c.protections_show_heads.ensures.notification)
    c.in-Ok-inspect_response.ensures.placed c.in-Ok-inspect_response.ensures.accepted (omega arith) c.in-Some.ensures refl refl refl refl refl
    (λ place wait_is. c.wait_at.ensures.requests was.to was.at_place
    ∙ heard_at _ c.in-Ok.decrypted.1.place place c.in-Some.wait was.to (subst TokensDiffer (sym was.agrees.table) was.agrees.differ) was.at_place wait_is)

pub returns-else-first_place-clause-apart : goal.returns-else-first_place-clause-apart
returns-else-first_place-clause-apart g c = λ d. differ_at _ _ c.in-Ok.decrypted.1.place c.in-Some.wait c.in-Ok.ensures.within c.wait_at.ensures.requests (c.decrypt.ensures.apart d)
