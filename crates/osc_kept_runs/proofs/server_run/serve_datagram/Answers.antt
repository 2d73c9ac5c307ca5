use Rattle.std.proofs.Common.{ℕ, List, refl, subst, take}
use Rattle.osc_life.specs.ServerHistory.{Then, Datagram, Took}
use Rattle.osc_kept_ends.specs.KeptServing.{KeptTakes}
use Rattle.osc_kept_ends.specs.Owning.{own_in}
use Rattle.osc_kept_runs.proofs.KeptRunLemmas.{took_step}
use Rattle.osc_kept_runs.proofs.server_run.serve_datagram.Goals as goal

pub returns : goal.returns
returns g c = λ h k.
    let a = c.args.arrival.now in
    let reply = take c.take-outcome.result.reply c.take-outcome.new.out in
    let old = c.args.server.now.source in
    let new = c.take-outcome.new.self.source in
    let t = subst (λ (d : List ℕ). KeptTakes h a.now a.fresh d c.take-outcome.result.outcome reply (own_in old) (own_in new) c.take-outcome.new.self.server) c.deref_mut.ensures.value (c.take-outcome.ensures.answered c.in_default.not-KeeperFailed h k) in
    let told = c.part-seen.ensures.shown t.answer t.shows in
    let after = Then h (Datagram a.now a.fresh.echo a.fresh.mid a.bytes.items) (Took t.answer reply) in
    (after, took_step h old a c.part-seen.result.0 _ after new _ t.answer told.0 (t.step.row, refl) (t.step.numbers, c.take-outcome.ensures.worked c.in_default.not-KeeperFailed) told.1, t.step.kept)
