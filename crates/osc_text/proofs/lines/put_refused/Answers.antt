use Rattle.std.proofs.Common.{Err, Ok, string_bytes}
use Rattle.std.proofs.lemmas.Result.{err_from_is_err_and}
use Rattle.osc_text.proofs.MadeLines.{refusal_is}
use Rattle.osc_text.proofs.lines.put_refused.Goals as goal

pub returns-in_err-put_line-clause-written : goal.returns-in_err-put_line-clause-written
returns-in_err-put_line-clause-written g c =
    let p = err_from_is_err_and c.from_residual.result c.from_residual.ensures.1 in
    rw (p.1, p.2) (refusal_is string_bytes (g.W.Write.contents c.args.out.now) (g.W.Write.contents c.put_line.new.out) c.refused_text.result (Err c.in_err-put_line.field-0.0) c.in_err-put_line.ensures.written c.in_err-put_line.ensures.failed (g.D.Display.output c.args.refusal) c.refused_text.ensures)

pub returns-clause-written : goal.returns-clause-written
returns-clause-written g c =
    refusal_is string_bytes (g.W.Write.contents c.args.out.now) (g.W.Write.contents c.put_line.new.out) c.refused_text.result (Ok tt) c.in_ok-put_line.ensures.written c.in_ok-put_line.ensures.failed (g.D.Display.output c.args.refusal) c.refused_text.ensures
