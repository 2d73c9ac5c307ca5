use Rattle.std.proofs.Common.{arith, refl}
use Rattle.osc_protect.specs.Views.{shown}
use Rattle.osc_handle.specs.SingleServerBytes.{table_of}
use Rattle.osc_handle.proofs.Tables.{found_bytes}
use Rattle.osc_handle.proofs.single_table.SlotHandleContexts.find.Goals as goal

pub returns-then-answers_to-clause-found : goal.returns-then-answers_to-clause-found
returns-then-answers_to-clause-found c =
    found_bytes (table_of c.args.self.now) 0 c.args.self.now c.args.kid.now (shown c.args.kid_context) (omega arith) (c.if-answers_to.ensures.yes refl)
