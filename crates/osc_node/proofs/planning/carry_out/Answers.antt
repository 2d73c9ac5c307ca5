use Rattle.std.proofs.Common.{length, refl}
use Rattle.osc_message.specs.HearingViews.{came_of}
use Rattle.osc_message.specs.LayerViews.{layer_of}
use Rattle.osc_message.specs.Taking.{Layer}
use Rattle.osc_message.specs.Views.{table_of}
use Rattle.osc_message.specs.declared.exchange.Awaits.TheVariants.{Acknowledgement}
use Rattle.osc_message.specs.declared.exchanges.Outgoing.{Outgoing}
use Rattle.osc_node.proofs.Planned.{carried_out}
use Rattle.osc_node.proofs.planning.carry_out.Goals as goal

pub returns-in-Ok-clause-responds : goal.returns-in-Ok-clause-responds
returns-in-Ok-clause-responds g c = λ kind can.
    let m : Outgoing = record { to = c.in-Con.to; message_id = c.in-Con.message_id; token = c.args.token; awaits = Acknowledgement } in
    let new : Layer = record { sent = table_of c.begin.new.self; came = came_of c.answer-way.new.self } in
    carried_out (layer_of c.args.layer.now) new c.args.now c.args.random c.args.arrived kind c.args.plan m c.answer-way.result c.args.sealed.now c.make_separate.new.datagram c.in-Ok.call (length c.args.sealed.now)
    c.in-Con.is can refl c.answer-way.ensures c.in-Ok.ensures.begun c.make_separate.ensures.message
