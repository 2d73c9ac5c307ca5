use Rattle.std.proofs.Common.{◌≤◌, arith, length, length-take, subst}
use Rattle.osc_context.specs.SecurityContext.{SecurityContext}
use Rattle.osc_peer_handle.proofs.laws.peer_requests_once.Goals as goal

pub returns : goal.returns
returns c = record {
  nonces = λ p requests room o a w.
      let own = p.server.server.slot.context in
      let kid = length-take own.sender_len own.sender in
      let fits = w.has.whole.server.bytes.context.sender_fits in
      c.nonces_once.ensures.client room a (subst (λ (s : SecurityContext). length s.client ≤ 7) w.context_is (omega (arith, kid, fits))) w.answers;
  client = λ p requests room o a w. c.own_numbers_once.ensures.client room a w.answers;
}
