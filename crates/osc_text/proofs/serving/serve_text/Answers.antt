use Rattle.osc_text.specs.Contexts.{agreed_server}
use Rattle.osc_endpoint.specs.ServerAnswer.{ServerAnswer}
use Rattle.osc_life.specs.ServerHistory.{Add, Added, Begin}
use Rattle.osc_text.specs.ReplaceEvents.{SpellsServing}
use Rattle.osc_text.specs.Printing.{BeginsBadly}
use Rattle.osc_text.specs.Serving.{HasBadLine, ServerText, start_of}
use Rattle.osc_text.proofs.InputTexts.{context_prints}
use Rattle.osc_text.proofs.serving.serve_text.Goals as goal

pub returns : goal.returns
returns g c =
    let v = c.args.serving in
    let p = c.args.agreed in
    let bytes = c.args.input.now in
    let s = agreed_server p in
    let prints = context_prints g.W.Write.contents p.params (ServerText s (start_of v) v.window bytes) (BeginsBadly (λ i. ServerAnswer Begin (Add s (start_of v) v.window 1) (Added i)) SpellsServing bytes) (HasBadLine p v bytes) c.args.out.now _ c.write_run.result
    (λ n bad. record { in_context = bad.0; state = bad.1.0; begins = bad.1.1; first_bad = bad.1.2 }) (λ n bad. (bad.in_context, (bad.state, bad.begins, bad.first_bad))) c.write_run.ensures in
    record { told = prints.told; written = prints.written; status = prints.status; two = prints.two; refused = prints.refused; refuses = prints.refuses; quiet = prints.quiet }
