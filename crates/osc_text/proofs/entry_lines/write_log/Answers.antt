use Rattle.std.proofs.lemmas.Result.{err_from_is_err_and}
use Rattle.osc_text.proofs.InputTexts.{whole_front}
use Rattle.osc_text.proofs.entry_lines.write_log.Goals as goal

pub returns-in_err-ran-clause-written : goal.returns-in_err-ran-clause-written
returns-in_err-ran-clause-written g c =
    let p = err_from_is_err_and c.from_residual-in_err-ran.result c.from_residual-in_err-ran.ensures.1 in
    rw (p.1, p.2) (whole_front _ _ _ c.in_ok-put_entries.ensures)
