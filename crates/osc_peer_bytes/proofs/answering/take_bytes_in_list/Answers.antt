use Rattle.std.proofs.Common.{ap, take}
use Rattle.osc_life.specs.ServerHistory.{Datagram, Took}
use Rattle.osc_kept_ends.specs.EchoNumber.{echo_of}
use Rattle.osc_peer_bytes.proofs.Calls.{answers_after}
use Rattle.osc_peer_calls.proofs.CallLemmas.{both_ok, shown_under}
use Rattle.osc_peer_handle.specs.PeerBytes.{next_in}
use Rattle.osc_peer_bytes.proofs.answering.take_bytes_in_list.Goals as goal

pub returns-clause-answered : goal.returns-clause-answered
returns-clause-answered c = both_ok c.take.result (λ t answered below s w requests room counted runs forges.
    let x = answered runs.h runs.own runs.serves in
    let reply = take t.reply c.take.new.out in (
      x.answer,
      x.shows,
      answers_after c.peer_calls_in_list.ensures.server s w c.args.peer.now c.take.new.self requests room runs
          (Datagram c.args.now (echo_of (next_in c.args.peer.now)) c.args.mid c.args.datagram.now) (Took x.answer reply) counted tt (ap echo_of runs.serves.has.next_is) x.step forges
          (shown_under t.outcome x.answer reply c.take.new.self.received x.shows (below runs.h runs.own runs.serves)),
    ))
    c.take.ensures.answered c.take.ensures.kept
