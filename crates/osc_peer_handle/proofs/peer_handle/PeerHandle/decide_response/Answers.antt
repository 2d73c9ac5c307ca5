use Rattle.std.proofs.Common.{[], refl, subst, sym}
use Rattle.osc_client.specs.Agrees.{PartsAgree, parts_over}
use Rattle.osc_peer_handle.proofs.AskSteps.{caught_up_asking, made_of, took_as}
use Rattle.osc_peer_handle.proofs.peer_handle.PeerHandle.decide_response.Goals as goal

pub returns-clause-answered : goal.returns-clause-answered
returns-clause-answered g c = λ a old w.
    let p = c.args.self.now in
    let requests = g.W.Waiting.requests c.args.pending.now in
    let later = g.W.Waiting.requests c.decide-decision.new.pending in
    let room = g.W.Waiting.room c.args.pending.now in
    let (b, passes, agrees) = caught_up_asking p requests room old a w in
    let d = c.decide-decision.ensures.answered b (subst (λ x. PartsAgree x b) (sym (made_of p (parts_over c.asking-state.result []) requests c.asking-state.ensures)) agrees) in
    record {
      answer = d.answer;
      decides = d.decides;
      step = took_as p room old a b c.args.now c.args.datagram.now d.answer requests later (parts_over c.decide-decision.new.self later) c.clock-self.result w passes agrees d.row d.agrees refl
          (c.decide-decision.ensures.apart w.differ) c.clock-self.ensures;
    }
