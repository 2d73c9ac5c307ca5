use Rattle.osc_text.proofs.RunLines.{asks_event, asks_replace}
use Rattle.osc_text.proofs.asking.follow_line.Goals as goal

pub returns-in-Event : goal.returns-in-Event
returns-in-Event g c = asks_event c.args.end.now c.follow_event.new.client c.args.line.now _ _ c.follow_event.result c.in-Event.event c.in-Event.ensures.value c.follow_event.ensures

pub returns-in-Replace : goal.returns-in-Replace
returns-in-Replace g c =
    asks_replace c.args.end.now c.follow_replace.new.client c.args.line.now _ _ c.follow_replace.result c.in-Replace.context c.give-context.result c.in-Replace.next c.in-Replace.ensures.value c.give-context.ensures.client c.follow_replace.ensures
