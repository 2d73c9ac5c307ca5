use Rattle.std.proofs.Common.{◌≡◌, ◌∙◌, sym, ap, refl, subst, length, true}
use Rattle.std.proofs.Math.Logic.{∥∥₁_map}
use Rattle.osc_coap.specs.Views.{parts_of}
use Rattle.osc_context.specs.Views.{limit_of, next_of}
use Rattle.osc_endpoint.specs.Views.{server_entry}
use Rattle.osc_life.specs.LifeAnswer.{asks_own}
use Rattle.osc_life.specs.ServerHistory.{Reply, Then}
use Rattle.osc_life.specs.Views.{values_of}
use Rattle.osc_kept_ends.specs.Numbering.{Draws, upcoming}
use Rattle.osc_kept_ends.specs.PeerOwning.{ahead_in, own_in, received_in}
use Rattle.osc_kept_ends.specs.Views.{own_at}
use Rattle.osc_kept_ends.proofs.Drawing.{still_last, upcoming_stays}
use Rattle.osc_kept_ends.proofs.PeerSteps.{client_at, client_still, kept_at, kept_behind, rises, server_at}
use Rattle.osc_kept_ends.proofs.kept_peer.KeptPeer.reply.Goals.{then-asks_own+in-Ok, else-asks_own}
use Rattle.osc_kept_ends.proofs.kept_peer.KeptPeer.reply.Goals as goal

pub invariant_of-self : goal.invariant_of-self
invariant_of-self g c =
    let same = ap upcoming (c.in_default.ensures.left refl) in
    record {
      served = ∥∥₁_map c.args.self.now.served (λ x. (x.0, server_at c.args.self.now.server x.0 (upcoming (own_in c.args.self.now.source)) (upcoming (own_in c.draw.new.self)) same x.1));
      asked = ∥∥₁_map c.args.self.now.asked (λ x. (x.0, client_at c.args.self.now.client x.0 (upcoming (own_in c.args.self.now.source)) (upcoming (own_in c.draw.new.self)) same x.1));
    }

pub pass_at_server-requires-clause-behind : goal.pass_at_server-requires-clause-behind
pass_at_server-requires-clause-behind g c =
    let source = c.if-asks_own.self.1.1.1.0 in
    let old = own_in c.args.self.now.source in
    let drawn : Draws (asks_own (values_of c.args.ticket) c.args.own) old (own_in source) = elim c.if-asks_own.branch [
      | then-asks_own+in-Ok w ↦ subst (λ b. Draws b old (own_in source)) (sym w.if-asks_own.true ∙ c.asks_own.ensures)
          (subst (λ s. Draws true old (own_in s.1.1.1.0)) (sym w.self-is) (w.in-Ok.ensures.drawn refl))
      | else-asks_own w ↦ subst (λ b. Draws b old (own_in source)) (sym w.if-asks_own.false ∙ c.asks_own.ensures)
          (subst (λ s. own_in s.1.1.1.0 ≡ old) (sym w.self-is) refl)
    ] in
    let same = c.upcoming.ensures.value ∙ upcoming_stays (asks_own (values_of c.args.ticket) c.args.own) old (own_in source) drawn in
    ∥∥₁_map c.args.self.now.served (λ x. (x.0, server_at c.args.self.now.server x.0 (upcoming old) c.upcoming.result same x.1))

pub invariant_of-self-2 : goal.invariant_of-self-2
invariant_of-self-2 g c =
    let source = c.if-asks_own.self.1.1.1.0 in
    (source.covered, (still_last source.in_hand c.reply_drawn.new.in_hand _ c.reply_drawn.ensures.hand source.last_drawn, (source.least, (source.saved_is, tt))))

pub invariant_of-self-3 : goal.invariant_of-self-3
invariant_of-self-3 g c =
    let source = c.if-asks_own.self.1.1.1.0 in
    let old = own_in c.args.self.now.source in
    let used = own_at (g.R.RecordKeeper.sender_floor source.keeper) (next_of source.numbers) (limit_of source.numbers) c.reply_drawn.new.in_hand in
    let drawn : Draws (asks_own (values_of c.args.ticket) c.args.own) old (own_in source) = elim c.if-asks_own.branch [
      | then-asks_own+in-Ok w ↦ subst (λ b. Draws b old (own_in source)) (sym w.if-asks_own.true ∙ c.asks_own.ensures)
          (subst (λ s. Draws true old (own_in s.1.1.1.0)) (sym w.self-is) (w.in-Ok.ensures.drawn refl))
      | else-asks_own w ↦ subst (λ b. Draws b old (own_in source)) (sym w.if-asks_own.false ∙ c.asks_own.ensures)
          (subst (λ s. own_in s.1.1.1.0 ≡ old) (sym w.self-is) refl)
    ] in
    let stays = upcoming_stays (asks_own (values_of c.args.ticket) c.args.own) old (own_in source) drawn in
    let same = c.upcoming.ensures.value ∙ stays in
    record {
      served = ∥∥₁_map c.args.self.now.served (λ x.
          let (h, passes, kept, is_open) = c.pass_at_server.ensures x.0 (server_at c.args.self.now.server x.0 (upcoming old) c.upcoming.result same x.1) in
          let step = c.reply_drawn.ensures.answered h old (g.R.RecordKeeper.sender_floor source.keeper) (next_of source.numbers) (limit_of source.numbers)
          (kept_at c.pass_at_server.new.server h c.upcoming.result (upcoming old) (sym same) kept) drawn source.last_drawn in
          let v = values_of c.args.ticket in
          let event = Reply v (asks_own v c.args.own) c.args.mid (parts_of c.args.plain.now) (length c.args.out.now) in
          let after = Then h event (server_entry c.reply_drawn.result c.reply_drawn.new.out) in
          (after, kept_behind c.reply_drawn.new.server after (upcoming used) step.kept));
      asked = ∥∥₁_map c.args.self.now.asked (λ x. (
        x.0,
        client_still c.args.self.now.client x.0 (upcoming (own_in source)) (upcoming used) (rises 0 _ 0 source.in_hand c.reply_drawn.new.in_hand c.reply_drawn.ensures.hand source.last_drawn)
            (client_at c.args.self.now.client x.0 (upcoming old) (upcoming (own_in source)) stays x.1),
      ));
    }

pub returns-clause-answered : goal.returns-clause-answered
returns-clause-answered g c = λ worked h b.
    let source = c.if-asks_own.self.1.1.1.0 in
    let old = own_in c.args.self.now.source in
    let drawn : Draws (asks_own (values_of c.args.ticket) c.args.own) old (own_in source) = elim c.if-asks_own.branch [
      | then-asks_own+in-Ok w ↦ subst (λ b. Draws b old (own_in source)) (sym w.if-asks_own.true ∙ c.asks_own.ensures)
          (subst (λ s. Draws true old (own_in s.1.1.1.0)) (sym w.self-is) (w.in-Ok.ensures.drawn refl))
      | else-asks_own w ↦ subst (λ b. Draws b old (own_in source)) (sym w.if-asks_own.false ∙ c.asks_own.ensures)
          (subst (λ s. own_in s.1.1.1.0 ≡ old) (sym w.self-is) refl)
    ] in
    let same = c.upcoming.ensures.value ∙ upcoming_stays (asks_own (values_of c.args.ticket) c.args.own) old (own_in source) drawn in
    let (behind, passes, kept, is_open) = c.pass_at_server.ensures h (server_at c.args.self.now.server h (upcoming old) c.upcoming.result same b) in
    (behind, passes, c.reply_drawn.ensures.answered behind old (g.R.RecordKeeper.sender_floor source.keeper) (next_of source.numbers) (limit_of source.numbers) (kept_at c.pass_at_server.new.server behind c.upcoming.result (upcoming old) (sym same) kept) drawn source.last_drawn)

pub returns-clause-received : goal.returns-clause-received
returns-clause-received g c =
    let old = c.args.self.now.source in
    elim c.if-asks_own.branch [
      | then-asks_own+in-Ok w ↦ subst (λ s. (received_in s.1.1.1.0 ≡ received_in old) × (ahead_in s.1.1.1.0 ≡ ahead_in old)) (sym w.self-is) w.in-Ok.ensures.received
      | else-asks_own w ↦ subst (λ s. (received_in s.1.1.1.0 ≡ received_in old) × (ahead_in s.1.1.1.0 ≡ ahead_in old)) (sym w.self-is) (refl, refl)
    ]
