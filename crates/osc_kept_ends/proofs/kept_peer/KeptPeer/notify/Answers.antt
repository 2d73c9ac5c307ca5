use Rattle.std.proofs.Common.{◌∙◌, sym, ap, refl, true}
use Rattle.std.proofs.Math.Logic.{∥∥₁_map}
use Rattle.osc_kept_ends.specs.Numbering.{upcoming}
use Rattle.osc_kept_ends.specs.PeerOwning.{own_in}
use Rattle.osc_kept_ends.proofs.Drawing.{still_last, upcoming_stays}
use Rattle.osc_kept_ends.proofs.PeerSteps.{client_at, client_still, kept_at, kept_behind, rises, server_at}
use Rattle.osc_kept_ends.proofs.kept_peer.KeptPeer.notify.Goals as goal

pub invariant_of-self : goal.invariant_of-self
invariant_of-self g c =
    let same = ap upcoming (c.in_default.ensures.left refl) in
    record {
      served = ∥∥₁_map c.args.self.now.served (λ x. (x.0, server_at c.args.self.now.server x.0 (upcoming (own_in c.args.self.now.source)) (upcoming (own_in c.draw.new.self)) same x.1));
      asked = ∥∥₁_map c.args.self.now.asked (λ x. (x.0, client_at c.args.self.now.client x.0 (upcoming (own_in c.args.self.now.source)) (upcoming (own_in c.draw.new.self)) same x.1));
    }

pub pass_at_server-requires-clause-behind : goal.pass_at_server-requires-clause-behind
pass_at_server-requires-clause-behind g c =
    let same = c.upcoming.ensures.value ∙ upcoming_stays true (own_in c.args.self.now.source) (own_in c.draw.new.self) (c.in-Ok.ensures.drawn refl) in
    ∥∥₁_map c.args.self.now.served (λ x. (x.0, server_at c.args.self.now.server x.0 (upcoming (own_in c.args.self.now.source)) c.upcoming.result same x.1))

pub invariant_of-self-2 : goal.invariant_of-self-2
invariant_of-self-2 g c =
    let source = c.draw.new.self in
    (source.covered, (still_last source.in_hand c.notify_drawn.new.in_hand _ c.notify_drawn.ensures.hand source.last_drawn, (source.least, (source.saved_is, tt))))

pub invariant_of-self-3 : goal.invariant_of-self-3
invariant_of-self-3 g c =
    let source = c.draw.new.self in
    let old = own_in c.args.self.now.source in
    let drawn = c.in-Ok.ensures.drawn refl in
    let stays = upcoming_stays true old (own_in source) drawn in
    let same = c.upcoming.ensures.value ∙ stays in
    record {
      served = ∥∥₁_map c.args.self.now.served (λ x.
          let (h, passes, kept, is_open) = c.pass_at_server.ensures x.0 (server_at c.args.self.now.server x.0 (upcoming old) c.upcoming.result same x.1) in
          let step = c.notify_drawn.ensures.answered h old _ _ _ (kept_at _ h c.upcoming.result (upcoming old) (sym same) kept) drawn source.last_drawn in
          (_, kept_behind _ _ _ step.kept));
      asked = ∥∥₁_map c.args.self.now.asked (λ x. (
        x.0,
        client_still c.args.self.now.client x.0 (upcoming (own_in source)) _ (rises 0 _ 0 source.in_hand c.notify_drawn.new.in_hand c.notify_drawn.ensures.hand source.last_drawn)
            (client_at c.args.self.now.client x.0 (upcoming old) (upcoming (own_in source)) stays x.1),
      ));
    }

pub returns-clause-answered : goal.returns-clause-answered
returns-clause-answered g c = λ worked h b.
    let source = c.draw.new.self in
    let old = own_in c.args.self.now.source in
    let drawn = c.in-Ok.ensures.drawn refl in
    let same = c.upcoming.ensures.value ∙ upcoming_stays true old (own_in source) drawn in
    let (behind, passes, kept, is_open) = c.pass_at_server.ensures h (server_at c.args.self.now.server h (upcoming old) c.upcoming.result same b) in
    (behind, passes, c.notify_drawn.ensures.answered behind old _ _ _ (kept_at _ behind c.upcoming.result (upcoming old) (sym same) kept) drawn source.last_drawn)
