use Rattle.osc_text.specs.Contexts.{agreed_client}
use Rattle.osc_text.specs.Asking.{ClientLine, HasBadAskedLine, asking_from}
use Rattle.osc_text.specs.InputText.{InputText}
use Rattle.osc_text.specs.Inputs.{IsFirstBadLine}
use Rattle.osc_text.specs.ReplaceEvents.{SpellsAsking}
use Rattle.osc_text.proofs.InputTexts.{context_prints}
use Rattle.osc_text.proofs.asking.ask_text.Goals as goal

pub returns : goal.returns
returns g c =
    let v = c.args.asking in
    let p = c.args.agreed in
    let bytes = c.args.input.now in
    let s = asking_from (agreed_client p) v in
    let prints = context_prints g.W.Write.contents p.params (InputText SpellsAsking ClientLine s bytes) (IsFirstBadLine SpellsAsking bytes) (HasBadAskedLine p bytes) c.args.out.now _ c.write_run.result
    (λ n bad. record { in_context = bad.0; first_bad = bad.1 }) (λ n bad. (bad.in_context, bad.first_bad)) c.write_run.ensures in
    record { told = prints.told; written = prints.written; status = prints.status; two = prints.two; refused = prints.refused; refuses = prints.refuses; quiet = prints.quiet }
