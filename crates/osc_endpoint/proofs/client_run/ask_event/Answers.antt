use Rattle.std.proofs.Common.{sym, subst, refl, List, ℕ}
use Rattle.osc_endpoint.specs.declared.client_event.ClientEvent.{ClientEvent}
use Rattle.osc_endpoint.specs.declared.client_event.ClientEntry.TheVariants as entries
use Rattle.osc_client.specs.ClientDeciding.{ClientTakes}
use Rattle.osc_client.specs.ClientHistory.{Then, Datagram, Took}
use Rattle.osc_endpoint.specs.ClientRun.{ClientRunStep}
use Rattle.osc_endpoint.proofs.client_run.ask_event.Goals as goal

pub returns-in-Datagram : goal.returns-in-Datagram
returns-in-Datagram g c = λ h a.
    let takes = subst (λ (d : List ℕ). ClientTakes h c.in-Datagram.now d c.take.result c.take.new.self) c.deref_mut-in-Datagram.ensures.value (c.take.ensures.answered h a) in
    let after = Then h (Datagram c.in-Datagram.now c.in-Datagram.bytes.items) (Took takes.answer) in
    (after, subst (λ (e : ClientEvent). ClientRunStep g.row.N h e (entries.Took c.take.result) after) (sym c.in-Datagram.is) (takes.answer, takes.shows, (takes.row, refl)), takes.agrees)
