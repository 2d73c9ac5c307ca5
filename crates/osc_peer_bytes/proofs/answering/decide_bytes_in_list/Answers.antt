use Rattle.std.proofs.Common.{ap, take}
use Rattle.osc_life.specs.ServerHistory.{Datagram, Took}
use Rattle.osc_kept_ends.specs.EchoNumber.{echo_of}
use Rattle.osc_peer_bytes.proofs.Calls.{answers_after}
use Rattle.osc_peer_calls.proofs.CallLemmas.{both_ok, decided_under}
use Rattle.osc_peer_handle.specs.PeerBytes.{next_in}
use Rattle.osc_peer_bytes.proofs.answering.decide_bytes_in_list.Goals as goal

pub returns-clause-answered : goal.returns-clause-answered
returns-clause-answered c = both_ok c.decide.result (λ d answered below s w requests room counted runs forges.
    let x = answered runs.h runs.own runs.serves in
    let reply = take d.reply c.decide.new.out in (
      x.answer,
      x.decides,
      answers_after c.peer_calls_in_list.ensures.server s w c.args.peer.now c.decide.new.self requests room runs
          (Datagram c.args.now (echo_of (next_in c.args.peer.now)) c.args.mid c.args.datagram.now) (Took x.answer reply) counted tt (ap echo_of runs.serves.has.next_is) x.step forges
          (decided_under d.decision c.decide.new.datagram x.answer reply c.decide.new.self.received x.decides below),
    ))
    c.decide.ensures.answered c.decide.ensures.kept
