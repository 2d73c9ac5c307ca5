use Rattle.std.proofs.Common.{◌≡◌, arith, refl, sym, true}
use Rattle.osc_node.proofs.Noted.{noted_or_not}
use Rattle.osc_node.proofs.noting.note_response.Goals as goal

pub returns-clause-came : goal.returns-clause-came
returns-clause-came g c =
    let con : c.args.heading.confirmable ≡ true = grind (arith, c.if-not-heading.false) in
    noted_or_not c.args.layer.now.arrivals c.note-noted.new.self _ c.args.from.items c.args.heading c.args.now c.note-noted.result refl refl (sym con) refl
    c.note-noted.ensures.noted c.note-noted.ensures.refused c.note-noted.ensures.unchanged con
