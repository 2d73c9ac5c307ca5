use Rattle.std.proofs.Common.{◌∙◌, sym, ap, refl, length, take, true, inr, None, arith}
use Rattle.std.proofs.Math.Logic.{∥∥₁_map}
use Rattle.osc_client.specs.ClientHistory.{Then, Advance, Advanced}
use Rattle.osc_coap.specs.Views.{parts_of}
use Rattle.osc_context.specs.Views.{limit_of, next_of}
use Rattle.osc_kept_ends.specs.Numbering.{upcoming}
use Rattle.osc_kept_ends.specs.PeerOwning.{own_in}
use Rattle.osc_kept_ends.specs.Views.{own_at}
use Rattle.osc_kept_ends.proofs.ClientSteps.{request_refused, request_sent}
use Rattle.osc_kept_ends.proofs.Drawing.{last_drawn, upcoming_stays}
use Rattle.osc_kept_ends.proofs.PeerSteps.{asked_at, asked_behind, client_at, rises, server_at, server_still}
use Rattle.osc_kept_ends.proofs.kept_peer.KeptPeer.request.Goals as goal

pub invariant_of-self : goal.invariant_of-self
invariant_of-self g c =
    let same = ap upcoming (c.in_default.ensures.left refl) in
    record {
      served = ∥∥₁_map c.args.self.now.served (λ x. (x.0, server_at c.args.self.now.server x.0 (upcoming (own_in c.args.self.now.source)) (upcoming (own_in c.draw.new.self)) same x.1));
      asked = ∥∥₁_map c.args.self.now.asked (λ x. (
        Then x.0 (Advance c.args.now) Advanced,
        client_at c.advance.new.self _ (upcoming (own_in c.args.self.now.source)) (upcoming (own_in c.draw.new.self)) same (record { agrees = c.advance.ensures.follows x.0 x.1.agrees; least = x.1.least }),
      ));
    }

pub returns-in_default-clause-failed : goal.returns-in_default-clause-failed
returns-in_default-clause-failed g c = λ is.
    let left = c.in_default.ensures.left refl in (
      left,
      λ k b. client_at c.advance.new.self _ (upcoming (own_in c.args.self.now.source)) (upcoming (own_in c.draw.new.self)) (ap upcoming left) (record { agrees = c.advance.ensures.follows k b.agrees; least = b.least }),
      c.in_default.ensures.failed refl,
    )

pub pass_at_client-requires : goal.pass_at_client-requires
pass_at_client-requires g c =
    let same = c.upcoming.ensures.value ∙ upcoming_stays true (own_in c.args.self.now.source) (own_in c.draw.new.self) (c.in-Ok.ensures.drawn refl) in (
      omega arith,
      (∥∥₁_map c.args.self.now.asked (λ x. (x.0, client_at c.args.self.now.client x.0 (upcoming (own_in c.args.self.now.source)) c.upcoming.result same x.1)), c.upcoming.ensures.most),
    )

pub invariant_of-self-in-Err-request : goal.invariant_of-self-in-Err-request
invariant_of-self-in-Err-request g c =
    let source = c.draw.new.self in
    let old = own_in c.args.self.now.source in
    let drawn = c.in-Ok.ensures.drawn refl in
    let stays = upcoming_stays true old (own_in source) drawn in
    let same = c.upcoming.ensures.value ∙ stays in
    record {
      served = ∥∥₁_map c.args.self.now.served (λ x. (x.0, server_at c.args.self.now.server x.0 (upcoming old) (upcoming (own_in source)) stays x.1));
      asked = ∥∥₁_map c.args.self.now.asked (λ x.
          let (m, passes, kept) = c.pass_at_client.ensures x.0 (client_at c.args.self.now.client x.0 (upcoming old) c.upcoming.result same x.1) in
          let at = asked_at c.pass_at_client.new.client m c.upcoming.result (upcoming old) (sym same) kept in
          let step = request_refused c.pass_at_client.new.client c.request.new.self m c.args.now (parts_of c.args.plain.now) (length c.args.out.now) c.in-Err.error old (own_in source)
          at (c.in-Err.ensures.answered m at.agrees) (c.in-Err.ensures.follows m at.agrees) drawn in
          (_, asked_behind c.request.new.self _ (upcoming (own_in source)) step.kept));
    }

pub returns-in-Err-clause-answered : goal.returns-in-Err-clause-answered
returns-in-Err-clause-answered g c = λ worked k b.
    let source = c.draw.new.self in
    let old = own_in c.args.self.now.source in
    let drawn = c.in-Ok.ensures.drawn refl in
    let same = c.upcoming.ensures.value ∙ upcoming_stays true old (own_in source) drawn in
    let (m, passes, kept) = c.pass_at_client.ensures k (client_at c.args.self.now.client k (upcoming old) c.upcoming.result same b) in
    let at = asked_at c.pass_at_client.new.client m c.upcoming.result (upcoming old) (sym same) kept in (
      m,
      passes,
      request_refused c.pass_at_client.new.client c.request.new.self m c.args.now (parts_of c.args.plain.now) (length c.args.out.now) c.in-Err.error old (own_in source)
          at (c.in-Err.ensures.answered m at.agrees) (c.in-Err.ensures.follows m at.agrees) drawn,
    )

pub invariant_of-self-3 : goal.invariant_of-self-3
invariant_of-self-3 g c =
    let source = c.draw.new.self in
    let old = own_in c.args.self.now.source in
    let used = own_at (g.R.RecordKeeper.sender_floor source.keeper) (next_of source.numbers) (limit_of source.numbers) None in
    let drawn = c.in-Ok.ensures.drawn refl in
    let stays = upcoming_stays true old (own_in source) drawn in
    let same = c.upcoming.ensures.value ∙ stays in
    record {
      served = ∥∥₁_map c.args.self.now.served (λ x. (
        x.0,
        server_still c.args.self.now.server x.0 (upcoming (own_in source)) (upcoming used) (rises 0 _ 0 source.in_hand None (inr refl) source.last_drawn)
            (server_at c.args.self.now.server x.0 (upcoming old) (upcoming (own_in source)) stays x.1),
      ));
      asked = ∥∥₁_map c.args.self.now.asked (λ x.
          let (m, passes, kept) = c.pass_at_client.ensures x.0 (client_at c.args.self.now.client x.0 (upcoming old) c.upcoming.result same x.1) in
          let at = asked_at c.pass_at_client.new.client m c.upcoming.result (upcoming old) (sym same) kept in
          let step = request_sent c.pass_at_client.new.client c.request.new.self m c.args.now (parts_of c.args.plain.now) (length c.args.out.now) (take c.in-Ok-request.len c.request.new.out) old (own_in source) used
          at (c.in-Ok-request.ensures.answered m at.agrees) (c.in-Ok-request.ensures.follows m at.agrees) drawn
          (λ n is. last_drawn source.in_hand (next_of source.numbers) n source.last_drawn is) (λ n. refl) in
          (_, asked_behind c.request.new.self _ (upcoming used) step.kept));
    }

pub returns-clause-answered : goal.returns-clause-answered
returns-clause-answered g c = λ worked k b.
    let source = c.draw.new.self in
    let old = own_in c.args.self.now.source in
    let used = own_at (g.R.RecordKeeper.sender_floor source.keeper) (next_of source.numbers) (limit_of source.numbers) None in
    let drawn = c.in-Ok.ensures.drawn refl in
    let same = c.upcoming.ensures.value ∙ upcoming_stays true old (own_in source) drawn in
    let (m, passes, kept) = c.pass_at_client.ensures k (client_at c.args.self.now.client k (upcoming old) c.upcoming.result same b) in
    let at = asked_at c.pass_at_client.new.client m c.upcoming.result (upcoming old) (sym same) kept in (
      m,
      passes,
      request_sent c.pass_at_client.new.client c.request.new.self m c.args.now (parts_of c.args.plain.now) (length c.args.out.now) (take c.in-Ok-request.len c.request.new.out) old (own_in source) used
          at (c.in-Ok-request.ensures.answered m at.agrees) (c.in-Ok-request.ensures.follows m at.agrees) drawn
          (λ n is. last_drawn source.in_hand (next_of source.numbers) n source.last_drawn is) (λ n. refl),
    )
