use Rattle.osc_text.specs.Contexts.{agreed_server}
use Rattle.osc_text.specs.InputEvents.{SpellsKept}
use Rattle.osc_text.specs.KeptServing.{KeptLine, Starts}
use Rattle.osc_text.specs.KeptText.{NotStarted}
use Rattle.osc_text.proofs.KeptPrinting.{end_told, end_two}
use Rattle.osc_text.proofs.kept_ends.serve_kept_text.Goals as goal

pub returns : goal.returns
returns g c =
    let k = g.K.Keeper in
    let p = c.args.agreed in
    let Begins = Starts k (agreed_server p) c.args.window c.args.keeper in
    record {
      written = end_told (NotStarted k c.args.keeper) Begins g.W.Write.contents SpellsKept KeptLine c.args.input.now c.args.out.now _ c.write_run.result p.params c.write_run.ensures;
      two = end_two (NotStarted k c.args.keeper) Begins g.W.Write.contents SpellsKept KeptLine c.args.input.now c.args.out.now _ c.write_run.result p.params c.write_run.ensures;
    }
