use Rattle.std.proofs.Common.{◌≡◌, ℕ, List, length, subst, sym, true}
use Rattle.osc_coap.specs.Datagram.{Parts}
use Rattle.osc_coap.specs.Views.{parts_of}
use Rattle.osc_endpoint.specs.Views.{server_entry}
use Rattle.osc_life.specs.LifeAnswer.{asks_own}
use Rattle.osc_life.specs.ServerHistory as served
use Rattle.osc_life.specs.Views.{values_of}
use Rattle.osc_kept_ends.specs.EchoNumber.{echo_of}
use Rattle.osc_kept_ends.specs.Numbering.{upcoming}
use Rattle.osc_kept_ends.specs.PeerOwning.{own_in}
use Rattle.osc_kept_ends.specs.Peering.{PeerStep}
use Rattle.osc_fresh.specs.Wishing.{unobeyed_message}
use Rattle.osc_fresh.proofs.asking.challenge.Goals as goal

pub unreachable-requires : goal.unreachable-requires
unreachable-requires g c = c.one_datagram.ensures.never_both _ _ _ _ c.write_plain-len.ensures.written c.in_default.ensures.refused

pub returns-clause-answered : goal.returns-clause-answered
returns-clause-answered g c = λ worked h behind.
    let same : unobeyed_message (echo_of (upcoming (own_in c.args.peer.now.source))) ≡ parts_of c.in-Ok.message =
    subst (λ (n : ℕ). unobeyed_message (echo_of n) ≡ parts_of c.in-Ok.message) c.upcoming-number.ensures
    (subst (λ (v : List ℕ). unobeyed_message v ≡ parts_of c.in-Ok.message) c.to_be_bytes.ensures (c.one_datagram.ensures.one _ _ _ c.write_plain-len.ensures.written c.in-Ok.ensures.accepted)) in
    let t = values_of c.args.ticket in
    subst (λ (q : Parts). PeerStep h (served.Reply t (asks_own t true) c.args.mid q (length c.args.out.now)) (server_entry c.reply.result c.reply.new.out)
    (own_in c.args.peer.now.source) (own_in c.reply.new.self.source) c.reply.new.self.server) (sym same) (c.reply.ensures.answered worked h behind)
