use Rattle.std.proofs.Common.{sym, subst, Option, List, ℕ}
use Rattle.osc_client.specs.ClientHistory as client
use Rattle.osc_fresh.specs.Views.{heard_of}
use Rattle.osc_kept.specs.World.{AtClient}
use Rattle.osc_peers.specs.Peers.{Forth, More}
use Rattle.osc_peer_calls.specs.Hearing.{WasHeard}
use Rattle.osc_peer_calls.proofs.CallLemmas.{listens}
use Rattle.osc_peer_calls.proofs.HeardEchoes.{added, hears}
use Rattle.osc_peer_calls.proofs.echoing.hear_echo_in_list.Goals as goal

pub returns : goal.returns
returns g c = λ s w counted runs forges was.
    let took = c.hear.ensures.answered runs.k runs.client.agrees in
    let event = AtClient (client.Datagram c.args.now c.args.datagram.now) (client.Took took.answer) in
    let (v, adds, after) = listens c.peer_calls_in_list.ensures.client s w c.args.peer.now c.hear.new.peer runs (client.Datagram c.args.now c.args.datagram.now) (client.Took took.answer)
    counted tt tt took.row (forges runs.k runs.runs.client_is) took.agrees c.hear.ensures.same in (
      took.answer,
      took.shows,
      (
        v,
        adds,
        after,
        added w v (Forth event) (heard_of c.args.heard.now) (heard_of c.hear.new.self) adds was
            (λ u before. subst (λ (o : Option (List ℕ)). WasHeard (More u (Forth event)) o) (sym c.hear.ensures.remembered) (hears u c.args.now c.args.datagram.now c.hear.result took.answer (heard_of c.args.heard.now) took.shows before)),
      ),
    )
