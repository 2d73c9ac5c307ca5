use Rattle.std.proofs.Common.{inr, refl, take}
use Rattle.osc_life.specs.ServerHistory as server
use Rattle.osc_kept_ends.specs.PeerOwning.{own_in}
use Rattle.osc_kept_ends.specs.Numbering.{upcoming}
use Rattle.osc_kept_ends.proofs.PeerSteps.{kept_behind, server_at, upcoming_on}
use Rattle.osc_peer_calls.proofs.CallLemmas.{advances, answers_after, serves_on, shown_under, waited}
use Rattle.osc_peer_calls.proofs.TakenClauses.{three_taken, three_again, two_taken}
use Rattle.osc_peer_calls.proofs.remembering.take_again_in_list.Goals as goal

pub returns-clause-again_list : goal.returns-clause-again_list
returns-clause-again_list g c = three_again c.take.result (λ n served asked source s w counted runs.
    advances c.peer_calls_in_list.ensures.server c.peer_calls_in_list.ensures.client s w c.args.peer.now c.take.new.peer runs c.args.now counted
    (served runs.h runs.server.agrees) (asked runs.k runs.client.agrees) source)
    c.take.ensures.again_server c.take.ensures.again_client c.take.ensures.again_source

pub returns-clause-answered : goal.returns-clause-answered
returns-clause-answered g c = three_taken c.take.result (λ t answered below client worked s w counted runs forges.
    let took = answered worked runs.h runs.server in
    let step = took.takes.step in
    let new = own_in c.take.new.peer.source in
    let reply = take t.reply c.take.new.out in
    let is = server_at c.take.new.peer.server _ (upcoming took.mid) (upcoming new) (upcoming_on took.mid new took.kept_on) (kept_behind _ _ _ step.kept) in (
      took.takes.answer,
      took.takes.shows,
      answers_after c.peer_calls_in_list.ensures.server s w c.args.peer.now c.take.new.peer runs took.g _ _ counted (inr took.passes) tt refl step.row
          (serves_on _ _ _ _ took.mid new _ step took.kept_on) forges is client (shown_under t.outcome took.takes.answer reply _ took.takes.shows below),
    ))
    c.take.ensures.answered c.take.ensures.kept c.take.ensures.client

pub returns-clause-clock_alone : goal.returns-clause-clock_alone
returns-clause-clock_alone g c = two_taken c.take.result (λ t waits client failed s w counted runs.
    let x = waits failed runs.h runs.server in
    answers_after c.peer_calls_in_list.ensures.server s w c.args.peer.now c.take.new.peer runs x.g (server.Advance c.args.now) server.Advanced counted x.passes tt tt tt
    (waited (own_in c.args.peer.now.source) x.mid (own_in c.take.new.peer.source) x.drawn x.kept_on) tt x.behind client tt)
    c.take.ensures.waits c.take.ensures.client
