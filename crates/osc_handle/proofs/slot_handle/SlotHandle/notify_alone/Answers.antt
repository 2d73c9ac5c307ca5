use Rattle.std.proofs.Common.{refl}
use Rattle.osc_handle.specs.SingleServerBytes.{table_of}
use Rattle.osc_handle.proofs.Tables.{place_changed, there_as}
use Rattle.osc_handle.proofs.slot_handle.SlotHandle.notify_alone.Goals as goal

pub returns-clause-answer : goal.returns-clause-answer
returns-clause-answer c = λ slots lives l h agrees life.
    let (s, is, stands) = there_as (table_of c.args.self.now) slots lives 0 c.args.self.now l h agrees refl life in
    c.notify_to.ensures.answer s l is stands

pub returns-clause-kept : goal.returns-clause-kept
returns-clause-kept c = λ slots lives l h agrees life.
    place_changed (table_of c.args.self.now) slots lives 0 c.args.self.now c.notify_to.new.self l _ h agrees refl life (λ s is stands. c.notify_to.ensures.kept s l is stands)
