use Rattle.std.proofs.Common.{◌∙◌, ◌∷◌, [], List, Some, refl, subst, sym}
use Rattle.osc_context.specs.Views.{number_of}
use Rattle.osc_handle.specs.SingleServerBytes.{table_of}
use Rattle.osc_handle.specs.SlotBytes.{IsGateIn, IsSlotIn}
use Rattle.osc_handle.specs.TableBytes.{IsTableIn}
use Rattle.osc_handle.specs.declared.slot_handle.SlotHandle.{SlotHandle}
use Rattle.osc_handle.proofs.Singles.{read_one, set_one}
use Rattle.osc_handle.proofs.Tables.{judged_in, leaves_in, named_in, named_used, refuses_alike, replayed_in, slot_at}
use Rattle.osc_handle.proofs.single_table.SlotHandleContexts.judge_at.Goals as goal

pub returns-then-is_replay-clause-decided : goal.returns-then-is_replay-clause-decided
returns-then-is_replay-clause-decided c = λ slots lives there agrees.
    replayed_in (table_of c.args.self.now) slots lives c.args.request c.args.datagram.now c.refuse_replay.result _ c.args.self.now c.in-Some.gate c.requires.named there agrees
    (subst (λ (b : SlotHandle). IsGateIn b c.in-Some.gate) (sym (read_one c.args.self.now c.args.request.index)) c.in-Some.ensures.made)
    (λ s l same sure a.
    c.refuse_replay.ensures.decided s l c.args.datagram.now a (refuses_alike s c.in-Some.gate (number_of c.args.request.number) same sure (c.if-is_replay.ensures.yes refl)) c.requires.asker)

pub judge_new-decided-requires-clause-named : goal.judge_new-decided-requires-clause-named
judge_new-decided-requires-clause-named c =
    (named_in (table_of c.args.self.now) c.args.request c.args.datagram.now c.args.self.now c.slot_with-slot.result c.requires.named
    (subst (λ (b : SlotHandle). IsSlotIn b c.slot_with-slot.result) (sym (read_one c.args.self.now c.args.request.index)) c.slot_with-slot.ensures.made)).named

pub judge_new-decided-requires-clause-sealed : goal.judge_new-decided-requires-clause-sealed
judge_new-decided-requires-clause-sealed c =
    (named_in (table_of c.args.self.now) c.args.request c.args.datagram.now c.args.self.now c.slot_with-slot.result c.requires.named
    (subst (λ (b : SlotHandle). IsSlotIn b c.slot_with-slot.result) (sym (read_one c.args.self.now c.args.request.index)) c.slot_with-slot.ensures.made)).sealed

pub returns-clause-decided : goal.returns-clause-decided
returns-clause-decided c = λ slots lives there agrees.
    let b = c.args.self.now in
    let i = c.args.request.index in
    let made = subst (λ (b : SlotHandle). IsSlotIn b c.slot_with-slot.result) (sym (read_one b i)) c.slot_with-slot.ensures.made in
    let n = named_in (table_of b) c.args.request c.args.datagram.now b c.slot_with-slot.result c.requires.named made in
    let j = judged_in (table_of b) slots lives c.args.request c.args.datagram.now c.judge_new-decided.result c.judge_new-decided.new.datagram _ c.slot_with-slot.result c.judge_new-decided.new.self c.keep.new.self n there agrees
    c.judge_new-decided.ensures.decided c.judge_new-decided.ensures.context (λ size.
    c.keep.ensures.kept c.slot_with-slot.result c.slot_with-slot.ensures.made c.judge_new-decided.ensures.context size (c.judge_new-decided.ensures.doubt ∙ c.slot_with-slot.ensures.made.doubt)) in
    let used = named_used (table_of b) c.args.request c.args.datagram.now c.requires.named in
    (j.0, subst (λ (xs : List SlotHandle). IsTableIn xs j.0) (set_one b c.keep.new.self i used) j.1, j.2, j.3)

pub returns-clause-leaves : goal.returns-clause-leaves
returns-clause-leaves c = λ slots there.
    let b = c.args.self.now in
    let made = subst (λ (b : SlotHandle). IsSlotIn b c.slot_with-slot.result) (sym (read_one b c.args.request.index)) c.slot_with-slot.ensures.made in
    let n = named_in (table_of b) c.args.request c.args.datagram.now b c.slot_with-slot.result c.requires.named made in
    let (s, at, is) = slot_at (table_of b) slots c.args.request.index n.bytes there n.there in
    leaves_in c.judge_new-decided.result.decision c.slot_with-slot.result slots c.args.request.index s c.args.datagram.now c.judge_new-decided.new.datagram at (is.context ∙ sym n.slot_is.context)
    (c.judge_new-decided.ensures.leaves (Some c.slot_with-slot.result ∷ []) 0 refl)
