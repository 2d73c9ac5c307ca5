use Rattle.std.proofs.Common.{◌≡◌, ◌∙◌, ◌≤◌, ℕ, sym, ap, arith, refl, subst, not, take, List, inl, inr}
use Rattle.std.proofs.Math.Logic.{∥∥₁_map}
use Rattle.std.proofs.lemmas.Bool.{cases_lt}
use Rattle.std.proofs.lemmas.Grind.{not_there}
use Rattle.osc_context.specs.Views.{limit_of, next_of}
use Rattle.osc_endpoint.specs.declared.server.ServerOf.{ServerOf}
use Rattle.osc_kept_ends.specs.EchoNumber.{echo_of}
use Rattle.osc_kept_ends.specs.KeptServing.{KeptDecides}
use Rattle.osc_kept_ends.specs.Views.{own_at}
use Rattle.osc_life.specs.Life.{is_open_life}
use Rattle.osc_life.specs.ServerHistory.{Then, Advance, Advanced, life}
use Rattle.osc_kept_ends.specs.Numbering.{Draws, upcoming}
use Rattle.osc_kept_ends.specs.PeerOwning.{own_in}
use Rattle.osc_kept_ends.proofs.Drawing.{still_last, upcoming_stays}
use Rattle.osc_kept_ends.proofs.PeerSteps.{client_at, client_still, delivery_draws, kept_at, kept_or_back, rises, server_at, upcoming_on, waited}
use Rattle.osc_kept_ends.proofs.kept_peer.KeptPeer.decide.Goals as goal

pub invariant_of-self : goal.invariant_of-self
invariant_of-self g c =
    let same = ap upcoming (c.in_default.ensures.left refl) in
    record {
      served = ∥∥₁_map c.args.self.now.served (λ x. (
        Then x.0 (Advance c.args.now) Advanced,
        server_at c.advance.new.self _ (upcoming (own_in c.args.self.now.source)) (upcoming (own_in c.draw_for_request.new.source)) same
            (record { agrees = c.advance.ensures x.0 x.1.agrees; one = x.1.one; reached = x.1.reached; reached_is = x.1.reached_is; least = x.1.least }),
      ));
      asked = ∥∥₁_map c.args.self.now.asked (λ x. (x.0, client_at c.args.self.now.client x.0 (upcoming (own_in c.args.self.now.source)) (upcoming (own_in c.draw_for_request.new.source)) same x.1));
    }

pub returns-in_default-clause-waits : goal.returns-in_default-clause-waits
returns-in_default-clause-waits g c = λ failed h b.
    let left = c.in_default.ensures.left refl in
    record {
      g = h;
      passes = inl refl;
      mid = own_in c.args.self.now.source;
      drawn = inl refl;
      kept_on = inl left;
      behind = server_at c.advance.new.self _ (upcoming (own_in c.args.self.now.source)) (upcoming (own_in c.draw_for_request.new.source)) (ap upcoming left)
          (record { agrees = c.advance.ensures h b.agrees; one = b.one; reached = b.reached; reached_is = b.reached_is; least = b.least });
    }

pub pass_at_server-requires-clause-behind : goal.pass_at_server-requires-clause-behind
pass_at_server-requires-clause-behind g c =
    let source = c.draw_for_request.new.source in
    let old = own_in c.args.self.now.source in
    ∥∥₁_map c.args.self.now.served (λ x.
    let stays = upcoming_stays (not (is_open_life (life x.0 0))) old (own_in source) (c.in-Ok.ensures.drawn refl x.0 x.1.agrees) in
    (x.0, server_at c.args.self.now.server x.0 (upcoming old) c.upcoming-next.result (c.upcoming-next.ensures.value ∙ stays) x.1))

pub invariant_of-self-2 : goal.invariant_of-self-2
invariant_of-self-2 g c =
    let source = c.draw_for_request.new.source in
    (source.covered, (still_last source.in_hand c.decide_drawn-decided.new.in_hand _ c.decide_drawn-decided.ensures.hand source.last_drawn, (source.least, (source.saved_is, tt))))

pub invariant_of-self-3 : goal.invariant_of-self-3
invariant_of-self-3 g c =
    let source = c.draw_for_request.new.source in
    let old = own_in c.args.self.now.source in
    let used = own_at (g.R.RecordKeeper.sender_floor source.keeper) (next_of source.numbers) (limit_of source.numbers) c.decide_drawn-decided.new.in_hand in
    let behind : upcoming (own_in source) ≤ upcoming used = rises 0 (next_of source.numbers) 0 source.in_hand c.decide_drawn-decided.new.in_hand c.decide_drawn-decided.ensures.hand source.last_drawn in
    let kept_on : upcoming (own_in c.keep_delivery.new.source) ≡ upcoming used = upcoming_on used (own_in c.keep_delivery.new.source) c.keep_delivery.ensures.kept_on in
    let least : upcoming old ≤ upcoming (own_in source) = elim (cases_lt (upcoming (own_in source)) (upcoming old)) [
      | inl less ↦ absurd (not_there c.args.self.now.served (λ x.
          let stays : upcoming (own_in source) ≡ upcoming old = upcoming_stays (not (is_open_life (life x.0 0))) old (own_in source) (c.in-Ok.ensures.drawn refl x.0 x.1.agrees) in
          omega (arith, less, stays)))
      | inr least ↦ least
    ] in
    let most : upcoming old ≤ upcoming (own_in c.keep_delivery.new.source) = omega (arith, behind, kept_on, least) in
    let last : upcoming used ≤ upcoming (own_in c.keep_delivery.new.source) = omega (arith, kept_on) in
    record {
      served = ∥∥₁_map c.args.self.now.served (λ x.
          let drawn = c.in-Ok.ensures.drawn refl x.0 x.1.agrees in
          let same = c.upcoming-next.ensures.value ∙ upcoming_stays (not (is_open_life (life x.0 0))) old (own_in source) drawn in
          let (h, passes, kept, is_open) = c.pass_at_server.ensures x.0 (server_at c.args.self.now.server x.0 (upcoming old) c.upcoming-next.result same x.1) in
          let at = kept_at c.pass_at_server.new.server h c.upcoming-next.result (upcoming old) (sym same) kept in
          let t = c.decide_drawn-decided.ensures.answered h old (g.R.RecordKeeper.sender_floor source.keeper) (next_of source.numbers) (limit_of source.numbers) at
          (subst (λ o. Draws (not o) old (own_in source)) (sym is_open) drawn) source.last_drawn in
          kept_or_back c.keep_delivery.result c.pass_at_server.new.server c.decide_drawn-decided.new.server c.keep_delivery.new.server c.gate-gate.result h (upcoming old) (upcoming (own_in c.keep_delivery.new.source)) c.args.now
          _ _ c.decide_drawn-decided.result _ _ old used c.keep_delivery.ensures.same c.keep_delivery.ensures.taken_back at (λ l is. c.gate-gate.ensures h l at.agrees is) t most last);
      asked = ∥∥₁_map c.args.self.now.asked (λ x. (x.0, client_still c.args.self.now.client x.0 (upcoming old) (upcoming (own_in c.keep_delivery.new.source)) most x.1));
    }

pub returns-in_err-keep_delivery-clause-waits : goal.returns-in_err-keep_delivery-clause-waits
returns-in_err-keep_delivery-clause-waits g c = λ failed before b.
    let source = c.draw_for_request.new.source in
    let old = own_in c.args.self.now.source in
    let used = own_at (g.R.RecordKeeper.sender_floor source.keeper) (next_of source.numbers) (limit_of source.numbers) c.decide_drawn-decided.new.in_hand in
    let drawn = c.in-Ok.ensures.drawn refl before b.agrees in
    let stays : upcoming (own_in source) ≡ upcoming old = upcoming_stays (not (is_open_life (life before 0))) old (own_in source) drawn in
    let same = c.upcoming-next.ensures.value ∙ stays in
    let behind : upcoming (own_in source) ≤ upcoming used = rises 0 (next_of source.numbers) 0 source.in_hand c.decide_drawn-decided.new.in_hand c.decide_drawn-decided.ensures.hand source.last_drawn in
    let kept_on : upcoming (own_in c.keep_delivery.new.source) ≡ upcoming used = upcoming_on used (own_in c.keep_delivery.new.source) c.keep_delivery.ensures.kept_on in
    let (h, passes, kept, is_open) = c.pass_at_server.ensures before (server_at c.args.self.now.server before (upcoming old) c.upcoming-next.result same b) in
    let at = kept_at c.pass_at_server.new.server h c.upcoming-next.result (upcoming old) (sym same) kept in
    let t = c.decide_drawn-decided.ensures.answered h old (g.R.RecordKeeper.sender_floor source.keeper) (next_of source.numbers) (limit_of source.numbers) at
    (subst (λ o. Draws (not o) old (own_in source)) (sym is_open) drawn) source.last_drawn in
    record {
      g = h;
      passes = inr passes;
      mid = used;
      drawn = delivery_draws c.decide_drawn-decided.result.decision c.decide_drawn-decided.new.datagram t.answer h c.args.now c.args.mid c.to_be_bytes-echo.result c.args.datagram.now (take c.decide_drawn-decided.result.reply c.decide_drawn-decided.new.out) (not (is_open_life (life h 0))) old used
          (c.in_err-keep_delivery.ensures.delivers refl) t.decides t.step.numbers;
      kept_on = c.keep_delivery.ensures.kept_on;
      behind = waited c.pass_at_server.new.server c.decide_drawn-decided.new.server c.keep_delivery.new.server c.gate-gate.result h (upcoming old) (upcoming (own_in c.keep_delivery.new.source)) c.args.now
          _ _ c.decide_drawn-decided.result _ _ old used (c.in_err-keep_delivery.ensures.taken_back refl) at (λ l is. c.gate-gate.ensures h l at.agrees is) t (omega (arith, stays, behind, kept_on));
    }

pub returns-clause-answered : goal.returns-clause-answered
returns-clause-answered g c = λ before b.
    let source = c.draw_for_request.new.source in
    let old = own_in c.args.self.now.source in
    let used = own_at (g.R.RecordKeeper.sender_floor source.keeper) (next_of source.numbers) (limit_of source.numbers) c.decide_drawn-decided.new.in_hand in
    let drawn = c.in-Ok.ensures.drawn refl before b.agrees in
    let same = c.upcoming-next.ensures.value ∙ upcoming_stays (not (is_open_life (life before 0))) old (own_in source) drawn in
    let (h, passes, kept, is_open) = c.pass_at_server.ensures before (server_at c.args.self.now.server before (upcoming old) c.upcoming-next.result same b) in
    let at = kept_at c.pass_at_server.new.server h c.upcoming-next.result (upcoming old) (sym same) kept in
    let t = c.decide_drawn-decided.ensures.answered h old (g.R.RecordKeeper.sender_floor source.keeper) (next_of source.numbers) (limit_of source.numbers) at
    (subst (λ o. Draws (not o) old (own_in source)) (sym is_open) drawn) source.last_drawn in
    let fresh_is : c.to_be_bytes-echo.result ≡ echo_of (upcoming old) = c.to_be_bytes-echo.ensures ∙ ap echo_of same in
    let decided = c.decide_drawn-decided.result in
    let reply = take decided.reply c.decide_drawn-decided.new.out in
    let left = c.decide_drawn-decided.new.datagram in
    record {
      g = h;
      passes = passes;
      mid = used;
      decides = subst (λ (s : ServerOf 1). KeptDecides h c.args.now (record { echo = echo_of (upcoming old); mid = c.args.mid }) c.args.datagram.now decided left reply old used s) (sym (c.in_ok-keep_delivery.ensures.same refl))
          (subst (λ (e : List ℕ). KeptDecides h c.args.now (record { echo = e; mid = c.args.mid }) c.args.datagram.now decided left reply old used c.decide_drawn-decided.new.server) fresh_is t);
      kept_on = c.keep_delivery.ensures.kept_on;
    }
