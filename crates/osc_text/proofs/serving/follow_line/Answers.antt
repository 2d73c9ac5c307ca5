use Rattle.osc_endpoint.specs.ServerRun.{values_in}
use Rattle.osc_text.proofs.RunLines.{serves_event, serves_replace}
use Rattle.osc_text.proofs.serving.follow_line.Goals as goal

pub returns-in-Event : goal.returns-in-Event
returns-in-Event g c =
    serves_event c.args.end.now c.follow_event.new.server (values_in c.args.memory.now.items) (values_in c.follow_event.new.memory.items) c.args.line.now _ _ c.follow_event.result c.in-Event.event c.in-Event.ensures.value c.follow_event.ensures

pub returns-in-Replace : goal.returns-in-Replace
returns-in-Replace g c =
    serves_replace c.args.end.now c.follow_replace.new.server (values_in c.args.memory.now.items) (values_in c.follow_replace.new.memory.items) c.args.line.now _ _ c.follow_replace.result c.in-Replace.context c.give-context.result c.in-Replace.start
    c.in-Replace.ensures.value c.give-context.ensures.server c.follow_replace.ensures
