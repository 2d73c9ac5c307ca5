use Rattle.std.proofs.Common.{◌∙◌, refl, sym}
use Rattle.osc_endpoint.proofs.Deliveries.{delivers_row, row_delivers, shown_delivery}
use Rattle.osc_endpoint.proofs.server.ServerOf.decide.Goals as goal

pub returns-clause-delivered : goal.returns-clause-delivered
returns-clause-delivered g c = λ h i n m outcome a shows e.
    let s = (c.decide_over.ensures.answered h c.args.self.now.slots.items refl a).2 in
    row_delivers h c.args.now c.args.fresh.mid c.args.fresh.echo c.args.datagram.now s.answer i n m s.row.0 (sym (shown_delivery outcome s.answer (shows s.answer s.decides)) ∙ e)

pub returns-clause-delivers : goal.returns-clause-delivers
returns-clause-delivers g c = λ h i n m outcome a shows is.
    let s = (c.decide_over.ensures.answered h c.args.self.now.slots.items refl a).2 in
    shown_delivery outcome s.answer (shows s.answer s.decides) ∙ delivers_row h c.args.now c.args.fresh.mid c.args.fresh.echo c.args.datagram.now s.answer i n m c.one_reading.ensures.request c.one_request.ensures a.one_each s.row.0 is
