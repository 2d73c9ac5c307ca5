use Rattle.std.proofs.Common.{refl}
use Rattle.osc_text.specs.EntryLines.{entry_line}
use Rattle.osc_text.specs.Feeding.RunsEvent.{ran}
use Rattle.osc_text.specs.KeptLog.{kept_asked_text}
use Rattle.osc_text.proofs.kept_ends.KeptClientEnd.follow.Goals as goal

pub returns : goal.returns
returns g c =
    ran (entry_line (kept_asked_text c.ask_kept_event-entry.result)) (λ h agrees is.
    let (k, step, next) = c.ask_kept_event-entry.ensures h agrees in
    (k, (c.args.event.now, c.ask_kept_event-entry.result, refl, is, step, refl), next)) c.put_entry.ensures
