use Rattle.std.proofs.Common.{List, ℕ}
use Rattle.osc_kept_ends.specs.Refusals.{RefusesPeer}
use Rattle.osc_text.specs.Asking.{places}
use Rattle.osc_text.specs.Contexts.{agreed_client, agreed_server}
use Rattle.osc_text.specs.PeerEvents.{SpellsPeer}
use Rattle.osc_text.specs.Peering.{PeerLine, StartsPeer}
use Rattle.osc_text.specs.InputText.{InputText}
use Rattle.osc_text.specs.KeptText.{StartText}
use Rattle.osc_text.specs.Printing.{BeginsBadly, WroteAround}
use Rattle.osc_text.proofs.FollowedTexts.{known_followed, known_two}
use Rattle.osc_text.proofs.KeptPrinting.{start_two}
use Rattle.osc_text.proofs.peering.peer_following.Goals as goal

pub returns : goal.returns
returns g c =
    let p = c.args.agreed in
    let keeper = c.args.keeper in
    let contents = g.W.Write.contents in
    let r = c.write_run.result in
    let before = c.args.out.now in
    let after = c.write_run.new.out in
    let known = g.R.Read.remaining c.args.input.now in
    let Refuses = RefusesPeer g.K.RecordKeeper.loads g.K.RecordKeeper.failures keeper in
    let Begins = StartsPeer g.K.RecordKeeper (agreed_server p) (agreed_client p) c.args.peering keeper in
    let tells = λ (bytes : List ℕ). StartText Refuses Begins (λ s. InputText SpellsPeer (PeerLine places) s bytes) in
    let Whole = λ (bytes : List ℕ). WroteAround SpellsPeer (PeerLine places) (StartText Refuses Begins) (BeginsBadly Begins SpellsPeer bytes) bytes _ contents before after r in
    record {
      written = known_followed contents before after SpellsPeer (PeerLine places) Whole p.params tells Begins known r c.write_run.ensures;
      two = known_two contents before after SpellsPeer (PeerLine places) Whole p.params tells Begins known r (start_two Refuses Begins SpellsPeer (PeerLine places)) c.write_run.ensures;
    }
