use Rattle.osc_text.proofs.ClientSteps.{step_is}
use Rattle.osc_text.specs.ClientLog.{asked_line}
use Rattle.osc_text.specs.Feeding.RunsEvent.{ran}
use Rattle.osc_text.proofs.asking.follow_event.Goals as goal

pub returns : goal.returns
returns g c =
    ran (asked_line c.ask_event-entry.result) (λ h agrees is.
    let (k, step, next) = c.ask_event-entry.ensures h agrees in
    (k, step_is h k c.args.event.now c.ask_event-entry.result is step, next)) c.put_entry.ensures
