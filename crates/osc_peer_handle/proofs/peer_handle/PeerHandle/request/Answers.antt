use Rattle.std.proofs.Common.{[], inr, length, refl, subst, sym, take}
use Rattle.osc_coap.specs.Views.{parts_of}
use Rattle.osc_client.specs.Agrees.{PartsAgree, parts_over}
use Rattle.osc_peer_handle.proofs.AskSteps.{caught_up_asking, made_of, not_sent_as, sent_as}
use Rattle.osc_peer_handle.proofs.peer_handle.PeerHandle.request.Goals as goal

pub returns-in-Ok-clause-answered : goal.returns-in-Ok-clause-answered
returns-in-Ok-clause-answered g c = λ a old w.
    let p = c.args.self.now in
    let requests = g.W.Waiting.requests c.args.pending.now in
    let later = g.W.Waiting.requests c.send-sent.new.pending in
    let room = g.W.Waiting.room c.args.pending.now in
    let (b, passes, agrees) = caught_up_asking p requests room old a w in
    let made = subst (λ x. PartsAgree x b) (sym (made_of p (parts_over c.asking-state.result []) requests c.asking-state.ensures)) agrees in
    sent_as p room old a b c.args.now (parts_of c.args.plain.now) (length c.args.out.now) (take c.in-Ok.len c.send-sent.new.out) requests later (parts_over c.send-sent.new.self later)
    c.next-self.result c.clock-self.result w passes agrees (λ wants. c.save_first.ensures.accepted c.in_default.is (inr wants)) (c.in-Ok.ensures.answered b made) (c.in-Ok.ensures.follows b made) refl
    (c.send-sent.ensures.apart w.differ) c.next-self.ensures.value c.clock-self.ensures

pub returns-in-Err-clause-answered : goal.returns-in-Err-clause-answered
returns-in-Err-clause-answered g c = λ a old w.
    let p = c.args.self.now in
    let requests = g.W.Waiting.requests c.args.pending.now in
    let later = g.W.Waiting.requests c.send-sent.new.pending in
    let room = g.W.Waiting.room c.args.pending.now in
    let (b, passes, agrees) = caught_up_asking p requests room old a w in
    let made = subst (λ x. PartsAgree x b) (sym (made_of p (parts_over c.asking-state.result []) requests c.asking-state.ensures)) agrees in
    not_sent_as p room old a b c.args.now (parts_of c.args.plain.now) (length c.args.out.now) c.in-Err.error requests later (parts_over c.send-sent.new.self later)
    c.next-self.result c.clock-self.result w passes agrees (λ wants. c.save_first.ensures.accepted c.in_default.is (inr wants)) (c.in-Err.ensures.answered b made) (c.in-Err.ensures.follows b made) refl
    (c.send-sent.ensures.apart w.differ) c.next-self.ensures.value c.clock-self.ensures
