use Rattle.osc_text.specs.AskedEvents.{SpellsKeptAsked}
use Rattle.osc_text.specs.Asking.{places}
use Rattle.osc_text.specs.Contexts.{agreed_client}
use Rattle.osc_text.specs.KeptAsking.{KeptAskedLine, StartsClient}
use Rattle.osc_text.specs.KeptText.{NotStarted}
use Rattle.osc_text.proofs.KeptPrinting.{end_told, end_two}
use Rattle.osc_text.proofs.kept_ends.ask_kept_text.Goals as goal

pub returns : goal.returns
returns g c =
    let k = g.K.Keeper in
    let p = c.args.agreed in
    let Starts = StartsClient k (agreed_client p) c.args.life_ms c.args.keeper in
    record {
      written = end_told (NotStarted k c.args.keeper) Starts g.W.Write.contents SpellsKeptAsked (KeptAskedLine places) c.args.input.now c.args.out.now _ c.write_run.result p.params c.write_run.ensures;
      two = end_two (NotStarted k c.args.keeper) Starts g.W.Write.contents SpellsKeptAsked (KeptAskedLine places) c.args.input.now c.args.out.now _ c.write_run.result p.params c.write_run.ensures;
    }
