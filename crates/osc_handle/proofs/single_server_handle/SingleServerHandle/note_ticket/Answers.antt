use Rattle.std.proofs.Common.{◌∙◌, ◌∷◌, [], arith, refl, sym}
use Rattle.osc_life.specs.Views.{values_of}
use Rattle.osc_handle.proofs.Waits.{notes_added_at, notes_none_at}
use Rattle.osc_handle.proofs.single_server_handle.SingleServerHandle.note_ticket.Goals as goal

pub returns-then-context-eq0-clause-notes : goal.returns-then-context-eq0-clause-notes
returns-then-context-eq0-clause-notes c =
    let here = c.if-context-eq0.true in
    notes_added_at (c.args.self.now.unanswered ∷ []) (values_of c.args.ticket.now) 0 c.number-then-context-eq0.result _ c.add.new.self (sym here ∙ c.context-context.ensures) (c.number-then-context-eq0.ensures.value ∙ c.number.ensures) refl c.add.ensures.holds c.add.ensures.highest

pub returns-else-context-eq0-clause-notes : goal.returns-else-context-eq0-clause-notes
returns-else-context-eq0-clause-notes c =
    let other = c.if-context-eq0.false in
    notes_none_at (c.args.self.now.unanswered ∷ []) (values_of c.args.ticket.now) c.context-context.result c.context-context.ensures (omega (arith, other))
