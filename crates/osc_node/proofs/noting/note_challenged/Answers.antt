use Rattle.osc_node.proofs.Noted.{keeps_answered}
use Rattle.osc_node.proofs.noting.note_challenged.Goals as goal

pub returns-then-not-heading-clause-came : goal.returns-then-not-heading-clause-came
returns-then-not-heading-clause-came g c = keeps_answered _ _ _ c.args.from.items c.args.heading c.args.now c.note_asked-arrived.result c.answer-way.result c.note_asked-arrived.ensures.came c.answer-way.ensures

pub returns-else-not-heading-clause-came : goal.returns-else-not-heading-clause-came
returns-else-not-heading-clause-came g c = keeps_answered _ _ _ c.args.from.items c.args.heading c.args.now c.note_asked-arrived.result c.answer-way.result c.note_asked-arrived.ensures.came c.answer-way.ensures
