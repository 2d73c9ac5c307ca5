use Rattle.std.proofs.Common.{List, ℕ}
use Rattle.osc_text.specs.AskedEvents.{SpellsKeptAsked}
use Rattle.osc_text.specs.Asking.{places}
use Rattle.osc_text.specs.Contexts.{agreed_client}
use Rattle.osc_text.specs.KeptAsking.{KeptAskedLine, StartsClient}
use Rattle.osc_text.specs.KeptText.{NotStarted}
use Rattle.osc_text.specs.InputText.{InputText}
use Rattle.osc_text.specs.KeptText.{StartText}
use Rattle.osc_text.specs.Printing.{BeginsBadly, WroteAround}
use Rattle.osc_text.proofs.FollowedTexts.{known_followed, known_two}
use Rattle.osc_text.proofs.KeptPrinting.{start_two}
use Rattle.osc_text.proofs.kept_ends.ask_kept_following.Goals as goal

pub returns : goal.returns
returns g c =
    let p = c.args.agreed in
    let keeper = c.args.keeper in
    let contents = g.W.Write.contents in
    let r = c.write_run.result in
    let before = c.args.out.now in
    let after = c.write_run.new.out in
    let known = g.R.Read.remaining c.args.input.now in
    let Refuses = NotStarted g.K.Keeper keeper in
    let Begins = StartsClient g.K.Keeper (agreed_client p) c.args.life_ms keeper in
    let tells = λ (bytes : List ℕ). StartText Refuses Begins (λ s. InputText SpellsKeptAsked (KeptAskedLine places) s bytes) in
    let Whole = λ (bytes : List ℕ). WroteAround SpellsKeptAsked (KeptAskedLine places) (StartText Refuses Begins) (BeginsBadly Begins SpellsKeptAsked bytes) bytes _ contents before after r in
    record {
      written = known_followed contents before after SpellsKeptAsked (KeptAskedLine places) Whole p.params tells Begins known r c.write_run.ensures;
      two = known_two contents before after SpellsKeptAsked (KeptAskedLine places) Whole p.params tells Begins known r (start_two Refuses Begins SpellsKeptAsked (KeptAskedLine places)) c.write_run.ensures;
    }
