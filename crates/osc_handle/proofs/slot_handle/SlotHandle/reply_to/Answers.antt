use Rattle.std.proofs.Common.{◌∙◌, sym}
use Rattle.osc_handle.proofs.Tables.{doubt_marked, size_marked, slots_alike}
use Rattle.osc_handle.proofs.slot_handle.SlotHandle.reply_to.Goals as goal

pub returns-in-Ok-clause-answer : goal.returns-in-Ok-clause-answer
returns-in-Ok-clause-answer c = λ before l is a. (c.in-Ok.ensures.kept l (slots_alike c.args.self.now before c.slot_with-slot.result l is c.slot_with-slot.ensures.made a)).0

pub returns-in-Ok-clause-kept : goal.returns-in-Ok-clause-kept
returns-in-Ok-clause-kept c = λ before l is a.
    let b = slots_alike c.args.self.now before c.slot_with-slot.result l is c.slot_with-slot.ensures.made a in
    let after = (c.in-Ok.ensures.kept l b).1 in (
      c.reply_to.new.self,
      c.keep.ensures.kept c.slot_with-slot.result c.slot_with-slot.ensures.made c.reply_to.ensures.context (after.size ∙ (size_marked _ l ∙ sym b.size))
          (after.doubt ∙ (doubt_marked _ l ∙ (sym b.doubt ∙ c.slot_with-slot.ensures.made.doubt))),
      after,
    )

pub returns-in-Err-clause-answer : goal.returns-in-Err-clause-answer
returns-in-Err-clause-answer c = λ before l is a. (c.in-Err.ensures.kept l (slots_alike c.args.self.now before c.slot_with-slot.result l is c.slot_with-slot.ensures.made a)).0
