use Rattle.std.proofs.Common.{List, refl, subst}
use Rattle.std.proofs.lemmas.Result.{err_from_is_err_and}
use Rattle.osc_text.specs.Printing.{RunsEvents}
use Rattle.osc_text.specs.Printing.RunsInput.{misread, ran}
use Rattle.osc_text.proofs.ends.write_input.Goals as goal

pub returns-in_err-events : goal.returns-in_err-events
returns-in_err-events g c =
    let p = err_from_is_err_and c.from_residual.result c.from_residual.ensures.1 in
    rw (p.1, p.2) (misread c.in_err-events.field-0.0 c.in_err-events.ensures.refused refl refl)

pub returns : goal.returns
returns g c =
    let lines = g.E.End.are_lines_of c.args.end.now in
    ran c.in_ok-events.events.items c.in_ok-events.ensures.read
    (subst (λ (es : List g.row.E-Event.Denot). RunsEvents lines es (g.W.Write.contents c.args.out.now) (g.W.Write.contents c.print.new.out) c.print.result) c.as_mut_slice.ensures.value c.print.ensures)
