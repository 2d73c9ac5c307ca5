use Rattle.std.proofs.Common.{◌≡◌, ◌∙◌, sym, ap, subst, refl, Bool, true, false, not}
use Rattle.osc_life.specs.Life.{is_open_life}
use Rattle.osc_life.specs.ServerHistory.{life}
use Rattle.osc_kept_ends.specs.Numbering.{Draws}
use Rattle.osc_kept_ends.specs.Owning.{own_in}
use Rattle.osc_kept_ends.proofs.drawn.draw_for_datagram.Goals as goal

pub returns-then-is_open-clause-drawn : goal.returns-then-is_open-clause-drawn
returns-then-is_open-clause-drawn g c = λ ok h a.
    let is_closed : not (is_open_life (life h 0)) ≡ false = ap not (sym (c.is_open.ensures h a) ∙ c.if-is_open.true) in
    subst (λ (b : Bool). Draws b (own_in c.args.source.now) (own_in c.args.source.now)) (sym is_closed) refl

pub returns-clause-drawn : goal.returns-clause-drawn
returns-clause-drawn g c = λ ok h a.
    let closed : not (is_open_life (life h 0)) ≡ true = ap not (sym (c.is_open.ensures h a) ∙ c.if-is_open.false) in
    subst (λ (b : Bool). Draws b (own_in c.args.source.now) (own_in c.draw.new.self)) (sym closed) (c.draw.ensures.drawn ok)
