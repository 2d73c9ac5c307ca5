use Rattle.std.proofs.Common.{inr, refl, take}
use Rattle.osc_life.specs.ServerHistory as server
use Rattle.osc_kept_ends.specs.PeerOwning.{own_in}
use Rattle.osc_kept_ends.specs.Numbering.{upcoming}
use Rattle.osc_kept_ends.proofs.PeerSteps.{kept_behind, server_at, upcoming_on}
use Rattle.osc_peer_calls.proofs.CallLemmas.{answers_after, serves_on, shown_under, waited}
use Rattle.osc_peer_calls.proofs.answering.take_in_list.Goals as goal

pub returns-clause-answered : goal.returns-clause-answered
returns-clause-answered g c = λ worked s w counted runs forges.
    let took = c.take.ensures.answered worked runs.h runs.server in
    let step = took.takes.step in
    let new = own_in c.take.new.self.source in
    let reply = take c.take.result.reply c.take.new.out in
    let is = server_at c.take.new.self.server _ (upcoming took.mid) (upcoming new) (upcoming_on took.mid new took.kept_on) (kept_behind _ _ _ step.kept) in (
      took.takes.answer,
      took.takes.shows,
      answers_after c.peer_calls_in_list.ensures.server s w c.args.peer.now c.take.new.self runs took.g _ _ counted (inr took.passes) tt refl step.row
          (serves_on _ _ _ _ took.mid new _ step took.kept_on) forges is c.take.ensures.client (shown_under c.take.result.outcome took.takes.answer reply _ took.takes.shows c.take.ensures.kept),
    )

pub returns-clause-clock_alone : goal.returns-clause-clock_alone
returns-clause-clock_alone g c = λ failed s w counted runs.
    let waits = c.take.ensures.waits failed runs.h runs.server in
    answers_after c.peer_calls_in_list.ensures.server s w c.args.peer.now c.take.new.self runs waits.g (server.Advance c.args.now) server.Advanced counted waits.passes tt tt tt
    (waited (own_in c.args.peer.now.source) waits.mid (own_in c.take.new.self.source) waits.drawn waits.kept_on) tt waits.behind c.take.ensures.client tt
