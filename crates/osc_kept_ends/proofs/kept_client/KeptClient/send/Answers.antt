use Rattle.std.proofs.Common.{◌∙◌, sym, ap, refl, length, take}
use Rattle.std.proofs.Math.Logic.{∥∥₁_map}
use Rattle.std.proofs.lemmas.Grind.{not_there}
use Rattle.osc_coap.specs.Views.{parts_of}
use Rattle.osc_context.specs.Views.{next_of}
use Rattle.osc_kept_ends.specs.Numbering.{upcoming}
use Rattle.osc_kept_ends.specs.Owning.{own_in}
use Rattle.osc_kept_ends.proofs.Drawing.{last_drawn, none_in_hand}
use Rattle.osc_kept_ends.proofs.ClientSteps.{request_refused, request_sent, sent_hand}
use Rattle.osc_kept_ends.proofs.kept_client.KeptClient.send.Goals as goal

pub invariant_of-self : goal.invariant_of-self
invariant_of-self g c = record {
  kept = ∥∥₁_map c.args.self.now.kept (λ x. (x.0, record { agrees = x.1.agrees; next_is = x.1.next_is ∙ sym (ap upcoming (c.in_default.ensures.left refl)) }));
}

pub returns-in_default-clause-failed : goal.returns-in_default-clause-failed
returns-in_default-clause-failed g c = λ is.
    let left = c.in_default.ensures.left refl in
    let same = c.advance.ensures.source in (
      ap own_in same ∙ left,
      ap (λ s. g.K.Keeper.failures s.keeper) same ∙ c.in_default.ensures.failed refl,
      λ h k.
          let step = c.advance.ensures.advanced h (record { agrees = k.agrees; next_is = k.next_is ∙ sym (ap upcoming left) }) in
          record { agrees = step.kept.agrees; next_is = step.kept.next_is ∙ sym (ap (λ s. upcoming (own_in s)) same) },
    )

pub invariant_of-self-in-Err-request : goal.invariant_of-self-in-Err-request
invariant_of-self-in-Err-request g c = record {
  kept = ∥∥₁_map c.args.self.now.kept (λ x. (
    _,
    (request_refused c.args.self.now.client c.request.new.self x.0 c.args.now (parts_of c.args.plain.now) (length c.args.out.now) c.in-Err.error (own_in c.args.self.now.source) (own_in c.draw.new.self)
        x.1 (c.in-Err.ensures.answered x.0 x.1.agrees) (c.in-Err.ensures.follows x.0 x.1.agrees) (c.in-Ok.ensures.drawn refl)).kept,
  ));
}

pub returns-in-Err-clause-answered : goal.returns-in-Err-clause-answered
returns-in-Err-clause-answered g c = λ worked h k.
    request_refused c.args.self.now.client c.request.new.self h c.args.now (parts_of c.args.plain.now) (length c.args.out.now) c.in-Err.error (own_in c.args.self.now.source) (own_in c.draw.new.self)
    k (c.in-Err.ensures.answered h k.agrees) (c.in-Err.ensures.follows h k.agrees) (c.in-Ok.ensures.drawn refl)

pub invariant_of-self-2 : goal.invariant_of-self-2
invariant_of-self-2 g c =
    let source = c.draw.new.self in
    record {
      kept = ∥∥₁_map c.args.self.now.kept (λ x. (
        _,
        (request_sent c.args.self.now.client c.request.new.self x.0 c.args.now (parts_of c.args.plain.now) (length c.args.out.now) (take c.in-Ok-request.len c.request.new.out) (own_in c.args.self.now.source) (own_in source) (own_in c.spend.new.self)
            x.1 (c.in-Ok-request.ensures.answered x.0 x.1.agrees) (c.in-Ok-request.ensures.follows x.0 x.1.agrees) (c.in-Ok.ensures.drawn refl)
            (λ n is. last_drawn source.in_hand (next_of source.numbers) n source.last_drawn is) c.spend.ensures.used).kept,
      ));
    }

pub unreachable-requires : goal.unreachable-requires
unreachable-requires g c = not_there c.args.self.now.kept (λ x.
    none_in_hand c.draw.new.self.in_hand _ (sym c.in-None.is ∙ c.spend.ensures.number)
    (sent_hand c.args.self.now.client x.0 c.args.now (parts_of c.args.plain.now) (length c.args.out.now) (take c.in-Ok-request.len c.request.new.out) (own_in c.args.self.now.source) (own_in c.draw.new.self)
    x.1 (c.in-Ok-request.ensures.answered x.0 x.1.agrees) (c.in-Ok.ensures.drawn refl)))

pub returns-clause-answered : goal.returns-clause-answered
returns-clause-answered g c = λ worked h k.
    let source = c.draw.new.self in
    request_sent c.args.self.now.client c.request.new.self h c.args.now (parts_of c.args.plain.now) (length c.args.out.now) (take c.in-Ok-request.len c.request.new.out) (own_in c.args.self.now.source) (own_in source) (own_in c.spend.new.self)
    k (c.in-Ok-request.ensures.answered h k.agrees) (c.in-Ok-request.ensures.follows h k.agrees) (c.in-Ok.ensures.drawn refl)
    (λ n is. last_drawn source.in_hand (next_of source.numbers) n source.last_drawn is) c.spend.ensures.used
