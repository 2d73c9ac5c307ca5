use Rattle.osc_kept_ends.specs.Refusals.{RefusesPeer}
use Rattle.osc_text.specs.Asking.{places}
use Rattle.osc_text.specs.Contexts.{agreed_client, agreed_server}
use Rattle.osc_text.specs.PeerEvents.{SpellsPeer}
use Rattle.osc_text.specs.Peering.{PeerLine, StartsPeer}
use Rattle.osc_text.proofs.KeptPrinting.{end_told, end_two}
use Rattle.osc_text.proofs.peering.peer_text.Goals as goal

pub returns : goal.returns
returns g c =
    let r = g.R.RecordKeeper in
    let p = c.args.agreed in
    let keeper = c.args.keeper in
    let Refuses = RefusesPeer r.loads r.failures keeper in
    let Starts = StartsPeer r (agreed_server p) (agreed_client p) c.args.peering keeper in
    record {
      written = end_told Refuses Starts g.W.Write.contents SpellsPeer (PeerLine places) c.args.input.now c.args.out.now _ c.write_run.result p.params c.write_run.ensures;
      two = end_two Refuses Starts g.W.Write.contents SpellsPeer (PeerLine places) c.args.input.now c.args.out.now _ c.write_run.result p.params c.write_run.ensures;
    }
