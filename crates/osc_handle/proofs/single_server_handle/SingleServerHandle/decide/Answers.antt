use Rattle.std.proofs.Common.{ap}
use Rattle.osc_handle.specs.SingleServerBytes.{server_of_one, table_of}
use Rattle.osc_handle.specs.declared.slot_handle.SlotHandle.{SlotHandle}
use Rattle.osc_handle.proofs.Servers.{serves_took}
use Rattle.osc_handle.proofs.single_server_handle.SingleServerHandle.decide.Goals as goal

pub returns-clause-answered : goal.returns-clause-answered
returns-clause-answered c = λ h serves.
    serves_took (server_of_one c.args.self.now) (server_of_one c.note.new.self) h c.args.now c.args.fresh c.args.datagram.now c.decide_over-decided.new.datagram _ c.decide_over-decided.result c.decide_over-decided.new.clock
    (table_of c.decide_over-decided.new.contexts) serves c.decide_over-decided.ensures.answered c.note.ensures.clock (ap (λ (b : SlotHandle). table_of b) c.note.ensures.slot) c.note.ensures.notes
