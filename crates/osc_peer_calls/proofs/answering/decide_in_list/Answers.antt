use Rattle.std.proofs.Common.{take}
use Rattle.osc_life.specs.ServerHistory as server
use Rattle.osc_kept_ends.specs.PeerOwning.{own_in}
use Rattle.osc_peer_calls.proofs.CallLemmas.{answers_after, both_ok, waited}
use Rattle.osc_peer_calls.proofs.FreshCalls.{decided_after}
use Rattle.osc_peer_calls.proofs.answering.decide_in_list.Goals as goal

pub returns-clause-answered : goal.returns-clause-answered
returns-clause-answered g c = both_ok c.decide.result (λ d answered below s w counted runs forges.
    decided_after c.peer_calls_in_list.ensures.server s w c.args.peer.now c.decide.new.self runs c.args.now c.args.mid c.args.datagram.now c.decide.new.datagram d
    (take d.reply c.decide.new.out) counted forges (answered runs.h runs.server) below c.decide.ensures.client)
    c.decide.ensures.answered c.decide.ensures.kept

pub returns-clause-clock_alone : goal.returns-clause-clock_alone
returns-clause-clock_alone g c = λ failed s w counted runs.
    let waits = c.decide.ensures.waits failed runs.h runs.server in
    answers_after c.peer_calls_in_list.ensures.server s w c.args.peer.now c.decide.new.self runs waits.g (server.Advance c.args.now) server.Advanced counted waits.passes tt tt tt
    (waited (own_in c.args.peer.now.source) waits.mid (own_in c.decide.new.self.source) waits.drawn waits.kept_on) tt waits.behind c.decide.ensures.client tt
