use Rattle.std.proofs.Common.{ℕ, List, refl, subst, take}
use Rattle.osc_life.specs.declared.start.Fresh.{Fresh}
use Rattle.osc_life.specs.ServerHistory.{Then, Datagram, Took, Advance, Advanced}
use Rattle.osc_kept_ends.specs.EchoNumber.{echo_of}
use Rattle.osc_kept_ends.specs.Numbering.{upcoming}
use Rattle.osc_kept_ends.specs.Peering.{PeerTakes}
use Rattle.osc_kept_ends.specs.PeerOwning.{own_in}
use Rattle.osc_kept_ends.proofs.PeerSteps.{kept_behind, server_at, upcoming_on}
use Rattle.osc_peer_runs.proofs.PeerRunLemmas.{ticket_below, took_step}
use Rattle.osc_peer_runs.proofs.serving.take_arrival.Goals as goal

pub returns-in-KeeperFailed-clause-served : goal.returns-in-KeeperFailed-clause-served
returns-in-KeeperFailed-clause-served g c = λ h b.
    let failed = c.in-KeeperFailed.is in
    let w = c.take-outcome.ensures.waits failed h b in
    (Then w.g (Advance c.args.arrival.now.now) Advanced, (w.g, w.passes, refl, w.mid, w.drawn, w.kept_on, (c.take-outcome.ensures.failed failed, c.take-outcome.ensures.rises), refl, refl), w.behind)

pub returns-clause-served : goal.returns-clause-served
returns-clause-served g c = λ h b.
    let a = c.args.arrival.now in
    let taken = c.take-outcome.result in
    let reply = take taken.reply c.take-outcome.new.out in
    let old = c.args.peer.now.source in
    let new = c.take-outcome.new.self.source in
    let server = c.take-outcome.new.self.server in
    let fresh : Fresh = record { echo = echo_of (upcoming (own_in old)); mid = a.mid } in
    let worked = c.in_default.not-KeeperFailed in
    let t = subst (λ (d : List ℕ). PeerTakes h a.now fresh d taken.outcome reply (own_in old) (own_in new) server) c.deref_mut.ensures.value (c.take-outcome.ensures.answered worked h b) in
    let answer = t.takes.answer in
    let step = t.takes.step in
    let told = c.part-seen.ensures.shown answer t.takes.shows in
    let after = Then t.g (Datagram a.now (echo_of (upcoming (own_in old))) a.mid a.bytes.items) (Took answer reply) in
    let floor = g.R.RecordKeeper.received_floor new.keeper in (
      after,
      took_step h old a c.part-seen.result.0 _ after new _ answer told.0
          (t.g, t.passes, (step.row, refl), t.mid, step.numbers, t.kept_on, (c.take-outcome.ensures.worked worked, c.take-outcome.ensures.rises))
          told.1 (ticket_below taken.outcome answer floor t.takes.shows c.take-outcome.ensures.kept),
      server_at server after (upcoming t.mid) (upcoming (own_in new)) (upcoming_on t.mid (own_in new) t.kept_on) (kept_behind server after (upcoming t.mid) step.kept),
    )
