use Rattle.std.proofs.Common.{take}
use Rattle.osc_client.specs.ClientHistory as client
use Rattle.osc_life.specs.ServerHistory as server
use Rattle.osc_kept_ends.specs.PeerOwning.{own_in}
use Rattle.osc_peer_calls.proofs.CallLemmas.{answers_after, listens, waited}
use Rattle.osc_peer_calls.proofs.FreshCalls.{decided_after}
use Rattle.osc_peer_calls.proofs.NodeClauses.{one_alone, three_requested, two_failed, two_heard}
use Rattle.osc_peer_calls.proofs.noding.decide_at_node_in_list.Goals as goal

pub returns-clause-requested : goal.returns-clause-requested
returns-clause-requested g c = λ p is. three_requested c.decide.result.decision _ _ _ _ (λ d asked below same s w counted runs forges.
    let (id, of, decides) = asked in (
      id,
      decided_after c.peer_calls_in_list.ensures.server s w c.args.node.now.peer c.decide.new.self.peer runs c.args.now id c.args.datagram.now c.decide.new.datagram d
          (take d.reply c.decide.new.out) counted forges (decides runs.h runs.server) below same,
    ))
    (c.decide.ensures.requested p is) c.decide.ensures.kept c.decide.ensures.client

pub returns-clause-heard : goal.returns-clause-heard
returns-clause-heard g c = two_heard c.decide.result.decision _ _ _ (λ d heard same s w counted runs forges.
    let decided = heard runs.k runs.client.agrees in (
      decided.answer,
      decided.decides,
      listens c.peer_calls_in_list.ensures.client s w c.args.node.now.peer c.decide.new.self.peer runs (client.Datagram c.args.now c.args.datagram.now) (client.Took decided.answer)
          counted tt tt decided.row (forges runs.k runs.runs.client_is) decided.agrees same,
    ))
    c.decide.ensures.heard c.decide.ensures.same

pub returns-clause-clock_alone : goal.returns-clause-clock_alone
returns-clause-clock_alone g c = two_failed c.decide.result.decision _ _ _ (λ waits failed s w counted runs.
    let x = waits runs.h runs.server in
    answers_after c.peer_calls_in_list.ensures.server s w c.args.node.now.peer c.decide.new.self.peer runs x.g (server.Advance c.args.now) server.Advanced counted x.passes tt tt tt
    (waited (own_in c.args.node.now.peer.source) x.mid (own_in c.decide.new.self.peer.source) x.drawn x.kept_on) tt x.behind failed.2 tt)
    c.decide.ensures.waits c.decide.ensures.failed

pub returns-clause-unchanged : goal.returns-clause-unchanged
returns-clause-unchanged g c = one_alone c.decide.result.decision _ _ (λ same. same.0) c.decide.ensures.alone
