use Rattle.std.proofs.Common.{sym, subst, refl, List, ℕ}
use Rattle.osc_client.specs.ClientHistory.{Then, Datagram, Forget, Forgot, Took}
use Rattle.osc_endpoint.specs.declared.client_event.ClientEntry.TheVariants as asked
use Rattle.osc_kept_ends.specs.KeptAsking.{KeptStep, KeptTakes}
use Rattle.osc_kept_runs.specs.KeptRuns.{ClientStep, client_state}
use Rattle.osc_kept_ends.specs.Owning.{own_in}
use Rattle.osc_kept_runs.specs.declared.kept_event.KeptClientEntry.TheVariants as entries
use Rattle.osc_kept_runs.specs.declared.kept_event.KeptClientEvent.{KeptClientEvent}
use Rattle.osc_kept_runs.proofs.KeptRunLemmas.{still}
use Rattle.osc_kept_runs.proofs.client_run.ask_kept_event.Goals as goal

pub returns-in-Datagram : goal.returns-in-Datagram
returns-in-Datagram g c = λ h k.
    let old = c.args.client.now.source in
    let new = c.take.new.self.source in
    let t = subst (λ (d : List ℕ). KeptTakes h c.in-Datagram.now d c.take.result (own_in old) c.take.new.self.client) c.deref_mut-in-Datagram.ensures.value (c.take.ensures.answered h k) in
    let after = Then h (Datagram c.in-Datagram.now c.in-Datagram.bytes.items) (Took t.answer) in
    let (numbers, kept) = still h _ _ old new c.take.new.self.client c.take.ensures.source t.step in
    (after, subst (λ (e : KeptClientEvent). ClientStep g.row.N (client_state h old) e (entries.Asked (asked.Took c.take.result)) (client_state after new)) (sym c.in-Datagram.is) ((t.answer, t.shows, (t.step.row, refl)), numbers), kept)

pub returns-in-Forget : goal.returns-in-Forget
returns-in-Forget g c = λ h k.
    let old = c.args.client.now.source in
    let new = c.forget.new.self.source in
    let step = subst (λ (token : List ℕ). KeptStep h (Forget token) (Forgot c.forget.result) (own_in old) (own_in old) c.forget.new.self.client) c.deref-in-Forget.ensures.value (c.forget.ensures.answered h k) in
    let after = Then h (Forget c.in-Forget.token.items) (Forgot c.forget.result) in
    let (numbers, kept) = still h _ _ old new c.forget.new.self.client c.forget.ensures.source step in
    (after, subst (λ (e : KeptClientEvent). ClientStep g.row.N (client_state h old) e (entries.Asked (asked.Forgot c.forget.result)) (client_state after new)) (sym c.in-Forget.is) ((step.row, refl), numbers), kept)
