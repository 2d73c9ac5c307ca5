use Rattle.std.proofs.Common.{◌∙◌, sym, ap, refl, Some}
use Rattle.std.proofs.Math.Logic.{∥∥₁_map}
use Rattle.osc_life.specs.ServerHistory.{Then, Advance, Advanced}
use Rattle.osc_kept_ends.specs.Numbering.{upcoming}
use Rattle.osc_kept_ends.specs.Owning.{own_in}
use Rattle.osc_kept_ends.proofs.Drawing.{still_last}
use Rattle.osc_kept_ends.proofs.kept_server.KeptServer.decide.Goals as goal

pub invariant_of-self : goal.invariant_of-self
invariant_of-self g c = record {
  kept = ∥∥₁_map c.args.self.now.kept (λ x. (
    Then x.0 (Advance c.args.now) Advanced,
    record { agrees = c.advance.ensures x.0 x.1.agrees; one = x.1.one; next_is = x.1.next_is ∙ ap Some (sym (ap upcoming (c.in_default.ensures.left refl))) },
  ));
}

pub invariant_of-self-2 : goal.invariant_of-self-2
invariant_of-self-2 g c = (c.draw_for_datagram.new.source.covered, (still_last c.draw_for_datagram.new.source.in_hand c.decide_drawn.new.in_hand _ c.decide_drawn.ensures.hand c.draw_for_datagram.new.source.last_drawn, tt))

pub invariant_of-self-3 : goal.invariant_of-self-3
invariant_of-self-3 g c = record {
  kept = ∥∥₁_map c.args.self.now.kept (λ x.
      (_, (c.decide_drawn.ensures.answered x.0 (own_in c.args.self.now.source) _ _ _ x.1 (c.in-Ok.ensures.drawn refl x.0 x.1.agrees) c.draw_for_datagram.new.source.last_drawn).step.kept));
}
