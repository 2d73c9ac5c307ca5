use Rattle.std.proofs.Common.{◌≡◌, ◌<◌, get_or, length, rules}
use Rattle.std.proofs.lemmas.Result.{err_from_is_err_and}
use Rattle.osc_text.specs.EntryLines.{entry_line}
use Rattle.osc_text.proofs.LogLines.{entry_error, entry_more}
use Rattle.osc_text.proofs.entry_lines.put_entries.Goals as goal

pub returns-in_err-put_entry : goal.returns-in_err-put_entry
returns-in_err-put_entry g c =
    let p = err_from_is_err_and c.from_residual.result c.from_residual.ensures.1 in
    let inside : c.loop-entry.entry-index < length c.args.log.now = search rules in
    let is : c.entry-item.result ≡ get_or c.args.log.now c.loop-entry.entry-index c.entry-item.result = search rules in
    rw (p.1, p.2) (entry_error (λ e. entry_line (g.L.LogEntry.text_of e)) _ _ _ c.args.log.now c.loop-entry.entry-index c.entry-item.result c.in_err-put_entry.field-0.0 inside is c.loop-entry.invariant c.in_err-put_entry.ensures)

pub loop-entry-preserved : goal.loop-entry-preserved
loop-entry-preserved g c =
    let inside : c.loop-entry.entry-index < length c.args.log.now = search rules in
    let is : c.entry-item.result ≡ get_or c.args.log.now c.loop-entry.entry-index c.entry-item.result = search rules in
    entry_more (λ e. entry_line (g.L.LogEntry.text_of e)) _ _ _ c.args.log.now c.loop-entry.entry-index c.entry-item.result inside is c.loop-entry.invariant c.in_ok-put_entry.ensures
